use Rattle.isle_base_source.proofs.error.show.+write_number.Given as goal

abbrev pub decreases-write_number : goal.decreases-write_number
decreases-write_number g l = l.number
