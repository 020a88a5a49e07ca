-- What is told of several programs, which may share texts.
use Rattle.std.specs.Prelude.{◌≡◌, List, [], Option, map}
use Rattle.std.specs.List.Sorted.{IsPermutation, IsSortedByKey}
use Rattle.isle_base_source.specs.Source.{Source}
use Rattle.isle_base_source.specs.declared.error.Error.{Error}
use Rattle.isle_ast.specs.Tree.{Definition}
use Rattle.isle_cli.specs.Arguments.{Given}
use Rattle.isle_lint_core.specs.Finding.{Found, finding_cmp, finding_of}
use Rattle.isle_lint_core.specs.declared.finding.Finding.{Finding}
use Rattle.isle_lint_core.specs.declared.lint.Lint.{Lint}
use Rattle.isle_program_findings.specs.Programs.{AddsExamined, AreExamined, Part, each_once}
use Rattle.isle_program.specs.Reading.{IsReading}
use Rattle.isle_program_findings.specs.ReportView.{ReportNode}
use Rattle.isle_lint.specs.Linted.{Linted, is_same}
use Rattle.isle_lint.specs.Report.{AreToldIn, report_in}

-- these are the findings that are told of one program
pub record IsToldIn (lints : List Lint) (sources : List Source) (all : List Found) : Type 0 where
  pub definitions : List Definition
  pub refusals : List (Option Error)
  pub read : IsReading sources definitions refusals
  pub are : AreToldIn lints sources definitions all

-- each program is linted by itself
abbrev pub AreLinted : List Lint → List Source → List Part → List Linted → Type 0
AreLinted lints sources parts linted = AreExamined (IsToldIn lints) sources parts linted

-- one program more is linted
abbrev pub AddsLinted : List Lint → List Source → Part → (old new : List Linted) → Type 0
AddsLinted lints sources part old new = AddsExamined (IsToldIn lints) sources part old new

-- What is shown of programs that are linted: a line for each text that spells no tree, and for each finding of a program,
-- once, however many programs have it, in order of place; and for people how many there are of both. It is known whether any counts.
pub record IsShown (given : List Given) (sources : List Source) (linted : List Linted) (refusals : List (Option Error)) (report : ReportNode) : Type 0 where
  pub found : List Finding
  pub exact : IsPermutation (each_once is_same [] linted) (map finding_of found)
  pub in_order : IsSortedByKey finding_of finding_cmp found
  pub is : report ≡ report_in given linted sources refusals (map finding_of found)

-- each program is linted by itself, and this is shown
pub record IsProgramsReport (given : List Given) (lints : List Lint) (sources : List Source) (parts : List Part) (report : ReportNode) : Type 0 where
  pub linted : List Linted
  pub each : AreLinted lints sources parts linted
  pub definitions : List Definition
  pub refusals : List (Option Error)
  pub read : IsReading sources definitions refusals
  pub is : IsShown given sources linted refusals report
