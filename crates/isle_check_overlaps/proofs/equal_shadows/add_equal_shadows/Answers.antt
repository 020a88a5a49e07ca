use Rattle.std.proofs.Common.{◌++◌, ◌∙◌}
use Rattle.isle_check_overlaps.specs.Faults.{equal_shadows}
use Rattle.isle_check_overlaps.specs.Views.{candidates_of, faults_of}
use Rattle.isle_check_overlaps.proofs.GroupLemmas.{equal_step}
use Rattle.isle_check_overlaps.proofs.equal_shadows.add_equal_shadows.Goals as goal

pub loop-candidate-preserved : goal.loop-candidate-preserved
loop-candidate-preserved c =
    equal_step c.args.groups.now (candidates_of c.args.candidates.now) c.args.candidates.now c.loop-candidate.candidate-index c.candidate-item.result c.deref.result.now
    (faults_of c.loop-candidate.found.items) (faults_of c.add_shadow.new.found.items)
    (faults_of c.args.found.now.items ++ equal_shadows (candidates_of c.args.candidates.now))
    c.loop-candidate-test.true c.candidate-item.is c.requires (c.deref.ensures.value ∙ c.in_ok-hidden.ensures) c.in_ok-add_shadow.ensures c.loop-candidate.invariant
