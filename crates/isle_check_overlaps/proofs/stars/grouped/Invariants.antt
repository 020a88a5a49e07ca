use Rattle.std.proofs.Common.{◌≡◌, ◌++◌, drop, take}
use Rattle.isle_check_overlaps.specs.Groups.{AreGroups}
use Rattle.isle_check_overlaps.specs.Stars.{pairs, pairs_after}
use Rattle.isle_check_overlaps.specs.Views.{candidates_of, pairs_of}
use Rattle.isle_check_overlaps.proofs.stars.grouped.Given as goal

abbrev pub invariant-loop-candidate : goal.invariant-loop-candidate
invariant-loop-candidate l = record {
  groups : AreGroups l.groups (candidates_of (take l.candidate-index l.candidates));
  made : pairs_of l.made.items ++ pairs_after (candidates_of (take l.candidate-index l.candidates)) (candidates_of (drop l.candidate-index l.candidates))
      ≡ pairs_of l.fn.made.items ++ pairs (candidates_of l.candidates);
}
