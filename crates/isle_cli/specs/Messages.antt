-- Messages of one line.
use Rattle.std.specs.Prelude.{ℕ, ◌+◌, ◌==◌, List, [], ◌++◌, codes, if◌then◌else◌, string_bytes}
use Rattle.std.specs.Fmt.{decimal}
use Rattle.isle_base_source.specs.declared.error.Error.{Error}
use Rattle.isle_base_source.specs.declared.error.Error.TheVariants as errors
use Rattle.isle_base_source.specs.Lines.{column, line}
use Rattle.isle_base_source.specs.Source.{Source}

-- `FILE:LINE:COLUMN: KIND: MESSAGE`, line and column counted from 1, a column in bytes
abbrev pub message_line : Source → (offset : ℕ) → (kind message : List ℕ) → List ℕ
message_line source offset kind message =
    source.name ++ codes ":" ++ decimal (line source.text offset + 1) ++ codes ":" ++ decimal (column source.text offset + 1)
    ++ codes ": " ++ kind ++ codes ": " ++ message ++ codes "\n"

-- why a text was refused, at its place
abbrev pub error_line : Source → Error → List ℕ
error_line source (errors.ParseError msg span) = message_line source span.from.offset (codes "error") (string_bytes msg)
error_line source _ = []

-- a number and a noun, in the plural unless the number is 1
abbrev pub counted : ℕ → List ℕ → List ℕ
counted n noun = if n == 1 then decimal n ++ (codes " " ++ noun) else decimal n ++ (codes " " ++ (noun ++ codes "s"))

-- the line that counts errors and warnings
abbrev pub count_text : ℕ → ℕ → List ℕ
count_text errors warnings =
    if errors == 0 then (if warnings == 0 then [] else codes "found " ++ (counted warnings (codes "warning") ++ codes "\n"))
    else (if warnings == 0 then codes "found " ++ (counted errors (codes "error") ++ codes "\n")
    else codes "found " ++ (counted errors (codes "error") ++ (codes " and " ++ (counted warnings (codes "warning") ++ codes "\n"))))
