use Rattle.isle_check_laws.proofs.SettlingLaws.{settle_met}
use Rattle.isle_check_laws.proofs.comparisons.settling_keeps_what_holds.Goals as goal

pub returns : goal.returns
returns g c = λ w input cs es sweeps. settle_met w input sweeps cs es
