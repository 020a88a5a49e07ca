use Rattle.std.proofs.Common.{◌≡◌, drop, map}
use Rattle.isle_check.specs.Programs.{is_among}
use Rattle.isle_check.specs.ReportView.{told_node}
use Rattle.isle_check.proofs.programs.has_told.Given as goal

abbrev pub invariant-loop-other : goal.invariant-loop-other
invariant-loop-other l = is_among (map told_node (drop l.other-index l.all)) (told_node l.told) ≡ is_among (map told_node l.all) (told_node l.told)
