-- The shares so far, and then the others, are all.
use Rattle.std.proofs.Common.{◌≡◌, ◌++◌, drop, map}
use Rattle.isle_check.specs.Programs.{checked_of, share_of_checked}
use Rattle.isle_check.specs.ReportView.{told_node}
use Rattle.isle_program_findings.specs.Programs.{share_of}
use Rattle.isle_check.proofs.programs.shares_of.Given as goal

abbrev pub invariant-loop-program : goal.invariant-loop-program
invariant-loop-program l =
    map share_of l.shares.items ++ map (share_of_checked (told_node l.told)) (map checked_of (drop l.program-index l.checked))
    ≡ map (share_of_checked (told_node l.told)) (map checked_of l.checked)
