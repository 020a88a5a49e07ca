-- The findings so far are added.
use Rattle.std.proofs.Common.{◌≡◌, drop, map}
use Rattle.isle_lint_core.specs.Finding.{finding_of}
use Rattle.isle_lint.specs.Linted.{found_of, is_same}
use Rattle.isle_program_findings.specs.Programs.{all_added}
use Rattle.isle_lint.proofs.programs.add_all.Given as goal

abbrev pub invariant-loop-one : goal.invariant-loop-one
invariant-loop-one l =
    all_added is_same (map finding_of l.all.items) (map found_of (drop l.one-index l.told))
    ≡ all_added is_same (map finding_of l.initial.all.items) (map found_of l.told)
