use Rattle.isle_check_environment.specs.signatures.Views.{environment_of}
use Rattle.isle_check_overlaps.specs.Views.{candidate_of, others_of}
use Rattle.isle_check_overlaps.proofs.StarLemmas.{star_parts}
use Rattle.isle_check_overlaps.proofs.overlaps.star_fault.Goals as goal

pub returns : goal.returns
returns c =
    star_parts (environment_of c.args.env.now).terms (candidate_of c.args.candidate.now) c.args.others.now c.min-count.result (others_of c.in_ok-told.told.items)
    c.min-count.ensures c.in_ok-told.ensures
