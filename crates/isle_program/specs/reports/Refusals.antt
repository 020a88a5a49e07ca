-- What is told of texts that spell no tree, and how many messages there are.
use Rattle.std.specs.Prelude.{ℕ, ◌+◌, List, [], ◌∷◌, ◌++◌, Bool, true, false, Option, None, Some, slice_get, string_bytes}
use Rattle.isle_base_source.specs.Source.{Source}
use Rattle.isle_base_source.specs.declared.error.Error as error_code
use Rattle.isle_base_source.specs.declared.error.Error.TheVariants as errors
use Rattle.isle_cli.specs.Messages.{count_text}
use Rattle.isle_program.specs.reports.Lines.{told_line}
use Rattle.isle_program.specs.reports.Messages.{MessageNode}
use Rattle.isle_program.specs.declared.reports.format.Format.{Format}
use Rattle.isle_program.specs.declared.reports.format.Format.TheVariants.{Coloured, Human, Json, Github}
use Rattle.isle_program.specs.declared.reports.message.Severity.TheVariants as severities

-- an error of syntax has no kind
abbrev pub syntax_error : List ℕ → MessageNode
syntax_error text = record { severity = severities.Error; kind = []; text = text; programs = [] }

abbrev pub told_refusal : Format → Source → error_code.Error → List ℕ
told_refusal format source (errors.ParseError msg span) = told_line format source span.from.offset (syntax_error (string_bytes msg))
told_refusal format source _ = []

-- a text spells no tree, for which there is a reason
abbrev pub is_refused : Option (Option error_code.Error) → Bool
is_refused (Some (Some e)) = true
is_refused (Some None) = false
is_refused None = false

-- the line of a text that spells no tree
abbrev pub told_refusal_of : Format → Source → Option (Option error_code.Error) → List ℕ
told_refusal_of format source (Some (Some e)) = told_refusal format source e
told_refusal_of format source (Some None) = []
told_refusal_of format source None = []

-- the lines of those among the texts from this number on
abbrev pub told_refusals : Format → ℕ → List Source → List (Option error_code.Error) → List ℕ
told_refusals format file [] refusals = []
told_refusals format file (source ∷ sources) refusals =
    told_refusal_of format source (slice_get refusals file) ++ told_refusals format (file + 1) sources refusals

-- only people get a line that counts
abbrev pub told_count : Format → (errors warnings : ℕ) → List ℕ
told_count Human errors warnings = count_text errors warnings
told_count Coloured errors warnings = count_text errors warnings
told_count Json errors warnings = []
told_count Github errors warnings = []
