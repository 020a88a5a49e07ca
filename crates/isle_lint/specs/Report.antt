-- What is told of a program: a line for each text that spells no tree, and for each finding.
use Rattle.std.specs.Prelude.{◌≡◌, ℕ, ◌+◌, ◌==◌, List, [], ◌∷◌, ◌++◌, Bool, not, ◌&&◌, if◌then◌else◌, Option, filter, length, map, slice_get}
use Rattle.std.specs.List.{flat_map, list_all}
use Rattle.std.specs.List.Sorted.{IsPermutation, IsSortedByKey}
use Rattle.isle_base_source.specs.PositionOrder.{position_cmp}
use Rattle.isle_base_source.specs.Source.{Source}
use Rattle.isle_base_source.specs.declared.error.Error.{Error}
use Rattle.isle_ast.specs.Tree.{Definition}
use Rattle.isle_cli.specs.Arguments.{Given}
use Rattle.isle_lint_core.specs.Finding.{Found, finding_of, message_of}
use Rattle.isle_lint_core.specs.Findings.{findings_in}
use Rattle.isle_lint_core.specs.declared.finding.Finding.{Finding}
use Rattle.isle_lint_core.specs.Lint.{name}
use Rattle.isle_lint_core.specs.declared.lint.Lint.{Lint}
use Rattle.isle_lint.specs.Linted.{Linted, programs_of}
use Rattle.isle_lint.specs.Options.{is_warned}
use Rattle.isle_program.specs.Allowances.{Allowance, AreAllowances, is_allowed}
use Rattle.isle_program.specs.Reading.{refused_count}
use Rattle.isle_program.specs.reports.Formats.{format_in}
use Rattle.isle_program.specs.reports.Lines.{told_line}
use Rattle.isle_program.specs.reports.Messages.{MessageNode}
use Rattle.isle_program.specs.reports.Refusals.{told_count, told_refusal_of}
use Rattle.isle_program_findings.specs.ReportView.{ReportNode}
use Rattle.isle_program.specs.declared.reports.format.Format.{Format}
use Rattle.isle_program.specs.declared.reports.message.Severity.TheVariants.{Warning}

-- a finding is in the file of this number, and no comment turns it off
abbrev pub is_told : ℕ → List Allowance → Found → Bool
is_told file allowances f = (f.pos.file == file) && not (is_allowed allowances f)

abbrev pub told_in : ℕ → List Allowance → List Found → List Found
told_in file allowances found = filter (is_told file allowances) found

-- the findings are of lints that are warned of
abbrev pub are_warned : List Given → List Found → Bool
are_warned given found = list_all (λ f. is_warned given f.lint) found

-- nothing is told that counts: each text spells a tree, and the lint of each finding is warned of
abbrev pub is_clean : List Given → List (Option Error) → List Found → Bool
is_clean given refusals found = (refused_count refusals == 0) && are_warned given found

-- a finding, where it counts
abbrev pub kept_if : Bool → Found → List Found
kept_if counts f = if counts then f ∷ [] else []

-- these are told of the findings in the files from this number on: those that no comment turns off
abbrev pub AreTold : ℕ → List Source → (found told : List Found) → Type 0
AreTold file [] found told = told ≡ []
AreTold file (source ∷ sources) found told =
    (allowances : List Allowance) × (more : List Found) × AreAllowances source.text allowances × AreTold (file + 1) sources found more
    × (told ≡ told_in file allowances found ++ more)

-- what was told grows by what is told of the findings in one file
abbrev pub AddsTold : (file : ℕ) → Source → (found old new : List Found) → Type 0
AddsTold file source found old new =
    (allowances : List Allowance) × AreAllowances source.text allowances × (new ≡ old ++ told_in file allowances found)

-- These are told of texts with these definitions: what the lints find in the definitions, each finding once, in order of
-- place, but for what comments turn off.
pub record AreToldIn (lints : List Lint) (sources : List Source) (ds : List Definition) (told : List Found) : Type 0 where
  pub found : List Finding
  pub exact : IsPermutation (findings_in lints ds) (map finding_of found)
  pub in_order : IsSortedByKey (λ f. f.pos) position_cmp found
  pub are : AreTold 0 sources (map finding_of found) told

-- a finding as a message, which is told of these programs
abbrev pub finding_message : (programs : List ℕ) → Found → MessageNode
finding_message programs f = record { severity = Warning; kind = name f.lint; text = message_of f; programs = programs }

abbrev pub finding_line : Format → (programs : List ℕ) → Source → Found → List ℕ
finding_line format programs source f = told_line format source f.pos.offset (finding_message programs f)

-- the line of a finding, with the names of the programs that have it, if another one has its file, but not the finding
abbrev pub tagged_line : Format → List Linted → Source → Found → List ℕ
tagged_line format linted source f = finding_line format (programs_of f linted) source f

-- the lines of the findings in the file of this number
abbrev pub tagged_lines : Format → List Linted → ℕ → Source → List Found → List ℕ
tagged_lines format linted file source found = flat_map (tagged_line format linted source) (filter (λ f. f.pos.file == file) found)

-- the lines of the file of this number
abbrev pub source_text : Format → List Linted → ℕ → Source → List (Option Error) → List Found → List ℕ
source_text format linted file source refusals found =
    told_refusal_of format source (slice_get refusals file) ++ tagged_lines format linted file source found

-- those of the files from this number on
abbrev pub sources_text : Format → List Linted → ℕ → List Source → List (Option Error) → List Found → List ℕ
sources_text format linted file [] refusals found = []
sources_text format linted file (source ∷ sources) refusals found =
    source_text format linted file source refusals found ++ sources_text format linted (file + 1) sources refusals found

-- all lines, and for people how many there are
abbrev pub report_text : Format → List Linted → List Source → List (Option Error) → List Found → List ℕ
report_text format linted sources refusals found =
    sources_text format linted 0 sources refusals found ++ told_count format (refused_count refusals) (length found)

-- the report on these findings; it names no programs where none are linted apart
abbrev pub report_in : List Given → List Linted → List Source → List (Option Error) → List Found → ReportNode
report_in given linted sources refusals found =
    record { text = report_text (format_in given) linted sources refusals found; is_clean = is_clean given refusals found }
