use Rattle.std.proofs.Common.{◌≡◌, ◌≢◌, ◌≤◌, ◌↔◌, ◌∙◌, ap, arith, length, subst, sym}
use Rattle.std.specs.List.{sum}
use Rattle.isle_c.specs.Programs.{IsCheck, parts}
use Rattle.isle_c.proofs.AnswerLemmas.{wants, writes}
use Rattle.isle_c.specs.declared.TheConstants.{BAD_LENGTHS, REFUSED}
use Rattle.isle_c.proofs.StatusLemmas.{bad_lengths, no_text, refused_program, texts_of_program}
use Rattle.isle_c.proofs.isle_c_check_program.Goals as goal

pub returns-in-Ok-clause-written : goal.returns-in-Ok-clause-written
returns-in-Ok-clause-written c = λ is.
    writes (IsCheck (parts c.args.lengths.now c.args.texts.now)) _ _ _ _ _ c.in-Ok.ensures.ok c.deref.ensures (c.write.ensures.written is)

pub returns-in-Ok-clause-too_short : goal.returns-in-Ok-clause-too_short
returns-in-Ok-clause-too_short c = λ is.
    wants (IsCheck (parts c.args.lengths.now c.args.texts.now)) _ _ _ c.write.new.into _ c.in-Ok.ensures.ok c.deref.ensures (c.write.ensures.too_short is).0

pub returns-in-Err-clause-refused : goal.returns-in-Err-clause-refused
returns-in-Err-clause-refused c = λ is.
    refused_program c.args.lengths.now c.args.texts.now c.in-Err.why c.in-Err.ensures.err (sym (ap (λ answer. answer.status) c.answer.ensures) ∙ is)

pub returns-in-Err-clause-not_utf8 : goal.returns-in-Err-clause-not_utf8
returns-in-Err-clause-not_utf8 c = λ is.
    no_text c.args.lengths.now c.args.texts.now c.in-Err.why c.in-Err.ensures.err (sym (ap (λ answer. answer.status) c.answer.ensures) ∙ is)

pub returns-in-Err-clause-utf8 : goal.returns-in-Err-clause-utf8
returns-in-Err-clause-utf8 c = λ below.
    texts_of_program c.args.lengths.now c.args.texts.now c.in-Err.why c.in-Err.ensures.err (subst (λ n. n ≤ REFUSED) (ap (λ answer. answer.status) c.answer.ensures) below)

pub returns-in-Err-clause-bad_lengths : goal.returns-in-Err-clause-bad_lengths
returns-in-Err-clause-bad_lengths c =
    let said = bad_lengths c.args.lengths.now c.args.texts.now c.in-Err.why c.in-Err.ensures.err in
    subst (λ n. (n ≡ BAD_LENGTHS) ↔ (sum c.args.lengths.now ≢ length c.args.texts.now)) (sym (ap (λ answer. answer.status) c.answer.ensures)) said

pub returns-in-Ok-clause-bad_lengths : goal.returns-in-Ok-clause-bad_lengths
returns-in-Ok-clause-bad_lengths c =
    ((λ is. absurd (omega (arith, is, c.write.ensures.statuses))), (λ differ. absurd (differ c.in-Ok.ensures.add_up)))
