use Rattle.std.proofs.Common.{◌++◌}
use Rattle.isle_check_places.specs.values.Values.{value_asks}
use Rattle.isle_check_places.proofs.values.SameLemmas.{all_within}
use Rattle.isle_check_places.proofs.values.laws.sure_values_satisfy_both.Goals as goal

pub returns : goal.returns
returns c = λ terms term cs ds sure. all_within (cs ++ ds) (value_asks terms term cs ds) sure
