use Rattle.std.proofs.Common.{◌++◌, take}
use Rattle.isle_check_overlaps.specs.Stars.{pairs}
use Rattle.isle_check_overlaps.specs.Views.{candidates_of, pairs_of}
use Rattle.isle_check_overlaps.proofs.GroupLemmas.{groups_step, pairs_step}
use Rattle.isle_check_overlaps.proofs.stars.grouped.Goals as goal

pub loop-candidate-preserved : goal.loop-candidate-preserved
loop-candidate-preserved c = record {
  groups = groups_step c.add_to_group.new.groups c.args.candidates.now c.loop-candidate.candidate-index c.candidate-item.result c.loop-candidate-test.true c.candidate-item.is
      (c.in_ok-add_to_group.ensures (candidates_of (take c.loop-candidate.candidate-index c.args.candidates.now)) c.loop-candidate.invariant.groups);
  made = pairs_step c.loop-candidate.groups c.args.candidates.now c.loop-candidate.candidate-index c.candidate-item.result (pairs_of c.loop-candidate.made.items) (pairs_of c.add_pairs.new.made.items)
      (pairs_of c.args.made.now.items ++ pairs (candidates_of c.args.candidates.now)) c.loop-candidate-test.true c.candidate-item.is
      c.in_ok-add_pairs.ensures c.loop-candidate.invariant.groups c.loop-candidate.invariant.made;
}
