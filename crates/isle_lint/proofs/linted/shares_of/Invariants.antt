-- The shares so far, and then the others, are all.
use Rattle.std.proofs.Common.{◌≡◌, ◌++◌, drop, map}
use Rattle.isle_lint_core.specs.Finding.{finding_of}
use Rattle.isle_lint.specs.Linted.{linted_of, share_of_linted}
use Rattle.isle_program_findings.specs.Programs.{share_of}
use Rattle.isle_lint.proofs.linted.shares_of.Given as goal

abbrev pub invariant-loop-program : goal.invariant-loop-program
invariant-loop-program l =
    map share_of l.shares.items ++ map (share_of_linted (finding_of l.finding)) (map linted_of (drop l.program-index l.linted))
    ≡ map (share_of_linted (finding_of l.finding)) (map linted_of l.linted)
