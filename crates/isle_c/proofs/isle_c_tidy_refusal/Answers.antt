use Rattle.isle_c.specs.Refusals.{IsUntidiableAt}
use Rattle.isle_c.proofs.AnswerLemmas.{wants, writes}
use Rattle.isle_c.proofs.isle_c_tidy_refusal.Goals as goal

pub returns-in-Ok-clause-written : goal.returns-in-Ok-clause-written
returns-in-Ok-clause-written c = λ is.
    writes (IsUntidiableAt c.args.text.now c.in-Ok.refusal.place) _ _ _ _ _ c.in-Ok.ensures.ok c.deref.ensures (c.write.ensures.written is)

pub returns-in-Ok-clause-too_short : goal.returns-in-Ok-clause-too_short
returns-in-Ok-clause-too_short c = λ is.
    wants (IsUntidiableAt c.args.text.now c.in-Ok.refusal.place) _ _ _ c.write.new.into _ c.in-Ok.ensures.ok c.deref.ensures (c.write.ensures.too_short is).0
