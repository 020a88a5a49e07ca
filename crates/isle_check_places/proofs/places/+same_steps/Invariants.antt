use Rattle.std.proofs.Common.{length}
use Rattle.isle_check_places.proofs.places.+same_steps.Given as goal

abbrev pub decreases-same_steps : goal.decreases-same_steps
decreases-same_steps l = length l.a.now
