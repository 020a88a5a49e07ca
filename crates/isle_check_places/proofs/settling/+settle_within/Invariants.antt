use Rattle.isle_check_places.proofs.settling.+settle_within.Given as goal

abbrev pub decreases-settle_within : goal.decreases-settle_within
decreases-settle_within l = l.sweeps
