-- The findings of the programs so far are added.
use Rattle.std.proofs.Common.{◌≡◌, [], drop, map}
use Rattle.isle_lint_core.specs.Finding.{finding_of}
use Rattle.isle_lint.specs.Linted.{is_same, linted_of}
use Rattle.isle_program_findings.specs.Programs.{each_once}
use Rattle.isle_lint.proofs.programs.each_once.Given as goal

abbrev pub invariant-loop-program : goal.invariant-loop-program
invariant-loop-program l = each_once is_same (map finding_of l.all.items) (map linted_of (drop l.program-index l.linted)) ≡ each_once is_same [] (map linted_of l.linted)
