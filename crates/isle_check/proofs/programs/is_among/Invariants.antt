use Rattle.std.proofs.Common.{◌≡◌, drop, map}
use Rattle.isle_check.specs.Programs.{is_among, once_of}
use Rattle.isle_check.specs.ReportView.{told_node}
use Rattle.isle_check.proofs.programs.is_among.Given as goal

abbrev pub invariant-loop-other : goal.invariant-loop-other
invariant-loop-other l = is_among (map once_of (drop l.other-index l.all)) (told_node l.told) ≡ is_among (map once_of l.all) (told_node l.told)
