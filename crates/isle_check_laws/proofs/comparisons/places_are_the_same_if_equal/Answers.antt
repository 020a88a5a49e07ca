use Rattle.isle_check_overlaps.proofs.Equality.{place_decides}
use Rattle.isle_check_laws.proofs.comparisons.places_are_the_same_if_equal.Goals as goal

pub returns : goal.returns
returns c = place_decides
