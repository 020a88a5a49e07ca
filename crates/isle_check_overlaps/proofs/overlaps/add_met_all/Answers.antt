use Rattle.std.proofs.Common.{◌++◌}
use Rattle.isle_check_environment.specs.signatures.Views.{environment_of}
use Rattle.isle_check_overlaps.specs.Faults.{meetings_by}
use Rattle.isle_check_overlaps.specs.Views.{candidates_of, faults_of, stars_of}
use Rattle.isle_check_overlaps.proofs.GroupLemmas.{met_step}
use Rattle.isle_check_overlaps.proofs.overlaps.add_met_all.Goals as goal

pub loop-candidate-preserved : goal.loop-candidate-preserved
loop-candidate-preserved c =
    met_step (environment_of c.args.env.now).terms c.args.groups.now (stars_of c.args.stars.now) (candidates_of c.args.candidates.now) c.args.candidates.now c.loop-candidate.candidate-index c.candidate-item.result
    (faults_of c.loop-candidate.found.items) (faults_of c.add_met.new.found.items)
    (faults_of c.args.found.now.items ++ meetings_by (environment_of c.args.env.now).terms (stars_of c.args.stars.now) (candidates_of c.args.candidates.now))
    c.loop-candidate-test.true c.candidate-item.is c.requires c.in_ok-add_met.ensures c.loop-candidate.invariant
