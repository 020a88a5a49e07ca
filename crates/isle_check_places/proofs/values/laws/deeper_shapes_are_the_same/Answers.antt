use Rattle.isle_check_places.proofs.values.DepthLemmas.{deeper}
use Rattle.isle_check_places.proofs.values.laws.deeper_shapes_are_the_same.Goals as goal

pub returns : goal.returns
returns c = deeper
