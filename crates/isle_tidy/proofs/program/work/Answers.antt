use Rattle.std.proofs.Common.{ap, inr, map, string_bytes, ◌∙◌}
use Rattle.isle_tidy.proofs.NameLemmas.{named-as}
use Rattle.isle_tidy.proofs.program.work.Goals as goal

pub returns-in-Ok-2-clause-named : goal.returns-in-Ok-2-clause-named
returns-in-Ok-2-clause-named g c =
    λ some. inr (named-as c.args.program.now _ _ _ _ _ _ c.run_on_names.result _ _ _ _ _ _ c.listing_of.ensures c.stdin_name_of.ensures
    (ap (map string_bytes) c.deref.ensures.value ∙ c.in-Ok.ensures) c.run_on_names.ensures.named)
