-- The text of a list of errors.
use Rattle.std.specs.Prelude.{ℕ, ◌+◌, nat_lt, if◌then◌else◌, List, [], ◌++◌, length, string_bytes, codes}
use Rattle.std.specs.List.{flat_map}
use Rattle.std.specs.Fmt.{decimal}
use Rattle.isle_base_source.specs.declared.error.Error.{Error}
use Rattle.isle_base_source.specs.declared.error.Error.TheVariants.{ParseError, TypeError, UnreachableError, OverlapError, RecursionError, ShadowedError}
use Rattle.isle_base_source.specs.declared.error.Span.{Span}
use Rattle.isle_base_source.specs.Labels.{labels}
use Rattle.isle_base_source.specs.Lines.{line, column, line_text, missing_line_feed}
use Rattle.isle_base_source.specs.Source.{Source, source_at}

-- some errors, with the files of their places
pub record Report : Type 0 where
  pub errors : List Error
  pub files : List Source

-- the message of an error, without its line end
abbrev pub message : Error → List ℕ
message (ParseError msg span) = codes "parse error: " ++ string_bytes msg
message (TypeError msg span) = codes "type error: " ++ string_bytes msg
message (UnreachableError msg span) = codes "unreachable rule: " ++ string_bytes msg
message (OverlapError msg rules) = codes "overlap error: " ++ string_bytes msg
message (RecursionError msg span) = codes "recursion error: " ++ string_bytes msg
message (ShadowedError shadowed mask) = codes "more general higher-priority rule shadows other rules"

-- a place in a file: its name, line and column, counted from 1, and the line itself, always ended
-- by a LF
abbrev pub place_text : Source → ℕ → List ℕ
place_text source offset =
    source.name ++ codes ":" ++ decimal (line source.text offset + 1) ++ codes ":"
    ++ decimal (column source.text offset + 1) ++ codes ": " ++ line_text source.text (line source.text offset)
    ++ missing_line_feed source.text (line source.text offset)

unfoldable pub label_text : List Source → Span → List ℕ
label_text files span = place_text (source_at files span.from.file) span.from.offset

-- an error: its message line, its labels, and an empty line end
abbrev pub error_text : List Source → Error → List ℕ
error_text files e = message e ++ codes "\n" ++ flat_map (label_text files) (labels e) ++ codes "\n"

-- the number of errors, if there is more than one
abbrev pub found_text : ℕ → List ℕ
found_text count = if nat_lt 1 count then codes "found " ++ decimal count ++ codes " errors\n" else []

abbrev pub report_text : Report → List ℕ
report_text report =
    flat_map (error_text report.files) report.errors ++ found_text (length report.errors)
