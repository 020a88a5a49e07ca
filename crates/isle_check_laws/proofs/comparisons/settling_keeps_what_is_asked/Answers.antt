use Rattle.isle_check_laws.proofs.UnsettlingLaws.{settled_back}
use Rattle.isle_check_laws.proofs.comparisons.settling_keeps_what_is_asked.Goals as goal

pub returns : goal.returns
returns g c = λ w input cs ds es fs sweeps looks. settled_back w input looks sweeps cs es ds fs
