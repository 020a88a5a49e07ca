use Rattle.std.proofs.Common.{◌∙◌, ap, sym}
use Rattle.isle_tidy_core.specs.Tidied.{IsTidyTextOf}
use Rattle.isle_c.proofs.AnswerLemmas.{wants, writes}
use Rattle.isle_c.proofs.StatusLemmas.{refused_tidy}
use Rattle.isle_c.proofs.isle_c_tidy.Goals as goal

pub returns-in-Ok-clause-written : goal.returns-in-Ok-clause-written
returns-in-Ok-clause-written c = λ is.
    writes (IsTidyTextOf c.args.text.now) _ _ _ _ _ c.in-Ok.ensures.ok c.deref.ensures (c.write.ensures.written is)

pub returns-in-Ok-clause-too_short : goal.returns-in-Ok-clause-too_short
returns-in-Ok-clause-too_short c = λ is.
    wants (IsTidyTextOf c.args.text.now) _ _ _ c.write.new.into _ c.in-Ok.ensures.ok c.deref.ensures (c.write.ensures.too_short is).0

pub returns-in-Err-clause-refused : goal.returns-in-Err-clause-refused
returns-in-Err-clause-refused c = λ is.
    refused_tidy c.args.text.now c.in-Err.why c.in-Err.ensures.err (sym (ap (λ answer. answer.status) c.answer.ensures) ∙ is)
