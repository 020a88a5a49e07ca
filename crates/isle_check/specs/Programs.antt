-- What is told of several programs, which may share texts.
use Rattle.std.specs.Prelude.{◌≡◌, ℕ, ◌+◌, ◌==◌, List, [], ◌∷◌, ◌++◌, Bool, true, not, ◌&&◌, if◌then◌else◌, Option, filter, is_some, map}
use Rattle.std.specs.List.{list_any}
use Rattle.std.specs.Str.{bytes_eq}
use Rattle.isle_base_source.specs.Source.{Source}
use Rattle.isle_base_source.specs.declared.error.Error.{Error}
use Rattle.isle_ast.specs.Tree.{Definition}
use Rattle.isle_cli.specs.Arguments.{Given}
use Rattle.isle_check.specs.Report.{LineNode, ToldNode, finding_line, refused_lines, rendered, told_in}
use Rattle.isle_check.specs.ReportView.{told_node}
use Rattle.isle_check.specs.declared.programs.Checked as checked_code
use Rattle.isle_check.specs.declared.programs.Once as once_code
use Rattle.isle_program_findings.specs.Programs.{AddsExamined, AreExamined, Examined, Part, Share, each_once, is_own, part_of, share_in, tag}
use Rattle.isle_program.specs.Reading.{IsReading}
use Rattle.isle_program.specs.reports.Formats.{format_in}
use Rattle.isle_program_findings.specs.ReportView.{ReportNode}
use Rattle.isle_program.specs.declared.reports.format.Format.{Format}

-- a program with what is told of its findings
abbrev pub Checked : Type 0
Checked = Examined ToldNode

-- that of the code
abbrev pub checked_of : checked_code.Checked → Checked
checked_of c = record { part = part_of c.part.now; told = map told_node c.told.items }

-- what is told once
abbrev pub once_of : once_code.Once → ToldNode
once_of o = told_node o.told.now

-- this is told of the findings in one program
pub record IsToldIn (given : List Given) (sources : List Source) (told : List ToldNode) : Type 0 where
  pub definitions : List Definition
  pub refusals : List (Option Error)
  pub read : IsReading sources definitions refusals
  pub is : told ≡ told_in given sources definitions

-- each text of the program that is among these, from this number on, spells a tree
abbrev pub is_read : List (Option Error) → (number : ℕ) → (has : List Bool) → Bool
is_read [] number has = true
is_read (refusal ∷ refusals) number has = not (is_own has number && is_some refusal) && is_read refusals (number + 1) has

-- the programs whose own texts spell trees
abbrev pub read_parts : List (Option Error) → List Part → List Part
read_parts refusals parts = filter (λ part. is_read refusals 0 part.has) parts

-- each program whose own texts spell trees is checked by itself
abbrev pub AreChecked : List Given → List Source → List Part → List (Option Error) → List Checked → Type 0
AreChecked given sources parts refusals checked = AreExamined (IsToldIn given) sources (read_parts refusals parts) checked

-- one program more is checked
abbrev pub AddsChecked : List Given → List Source → Part → (old new : List Checked) → Type 0
AddsChecked given sources part old new = AddsExamined (IsToldIn given) sources part old new

-- both are told as errors, or both as warnings
abbrev pub is_as_bad : ToldNode → ToldNode → Bool
is_as_bad t u = if t.is_error then u.is_error else not u.is_error

abbrev pub has_same_words : ToldNode → ToldNode → Bool
has_same_words t u = bytes_eq t.words.name u.words.name && bytes_eq t.words.message u.words.message && bytes_eq t.notes u.notes

-- the same is told at the same place
abbrev pub is_same : ToldNode → ToldNode → Bool
is_same t u = t.pos.file == u.pos.file && t.pos.offset == u.pos.offset && is_as_bad t u && has_same_words t u

abbrev pub is_among : List ToldNode → ToldNode → Bool
is_among all t = list_any (is_same t) all

-- a program that is checked, and whether it has the file of a finding, and the finding
abbrev pub share_of_checked : ToldNode → Checked → Share
share_of_checked t c = share_in is_same t.pos.file t c

-- the programs behind a finding
abbrev pub programs_of : ToldNode → List Checked → List ℕ
programs_of t checked = tag (map (share_of_checked t) checked)

-- the lines of a finding, with the names of the programs that have it, where another one that is checked has its file, but not the finding
abbrev pub tagged_line : Format → List Checked → List Source → ToldNode → LineNode
tagged_line format checked sources t = finding_line format (programs_of t checked) sources t

abbrev pub tagged_lines : Format → List Checked → List Source → List ToldNode → List LineNode
tagged_lines format checked sources told = map (tagged_line format checked sources) told

-- the lines of the texts that spell no tree, and those of the findings of the programs, each once
abbrev pub programs_lines : Format → List Checked → List Source → List (Option Error) → List LineNode
programs_lines format checked sources refusals =
    refused_lines format 0 sources refusals ++ tagged_lines format checked sources (each_once is_same [] checked)

-- What is told of the programs: a line for each text that spells no tree; and those of each finding of a program, once,
-- however many programs have it, program by program. Each program whose own texts spell trees is checked by itself.
pub record IsProgramsReport (given : List Given) (sources : List Source) (parts : List Part) (report : ReportNode) : Type 0 where
  pub definitions : List Definition
  pub refusals : List (Option Error)
  pub read : IsReading sources definitions refusals
  pub checked : List Checked
  pub each : AreChecked given sources parts refusals checked
  pub is : report ≡ rendered (format_in given) (programs_lines (format_in given) checked sources refusals)
