-- What is told so far is added.
use Rattle.std.proofs.Common.{◌≡◌, drop, map}
use Rattle.isle_check.specs.Programs.{is_same, once_of}
use Rattle.isle_check.specs.ReportView.{told_node}
use Rattle.isle_program_findings.specs.Programs.{all_added}
use Rattle.isle_check.proofs.programs.add_all.Given as goal

abbrev pub invariant-loop-one : goal.invariant-loop-one
invariant-loop-one l =
    all_added is_same (map once_of l.all.items) (map told_node (drop l.one-index l.told))
    ≡ all_added is_same (map once_of l.initial.all.items) (map told_node l.told)
