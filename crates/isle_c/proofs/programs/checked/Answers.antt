use Rattle.std.proofs.Common.{string_bytes, subst}
use Rattle.std.proofs.lemmas.Result.{err_from_is_err_and}
use Rattle.isle_c.specs.Programs.{IsCheck, parts}
use Rattle.isle_c.proofs.ProgramLemmas.{seen_texts}
use Rattle.isle_c.proofs.StatusLemmas.{reading_failure}
use Rattle.isle_c.proofs.programs.checked.Goals as goal

pub returns-in_err-answer-clause-err : goal.returns-in_err-answer-clause-err
returns-in_err-answer-clause-err c =
    let p = err_from_is_err_and c.from_residual-in_err-answer.result c.from_residual-in_err-answer.ensures.1 in
    let said = c.in_ok-texts.ensures in
    let lengths = c.args.lengths.now in
    let bytes = c.args.bytes.now in
    let same = seen_texts c.deref.result.now c.in_ok-texts.texts.items (parts lengths bytes) c.deref.ensures.value said.ok in
    rw (p.1, p.2) (reading_failure lengths bytes _ c.in_err-answer.field-0.0 said.add_up said.utf8 same c.in_err-answer.ensures.err)

pub returns-clause-ok : goal.returns-clause-ok
returns-clause-ok c =
    let said = c.in_ok-texts.ensures in
    let same = seen_texts c.deref.result.now c.in_ok-texts.texts.items (parts c.args.lengths.now c.args.bytes.now) c.deref.ensures.value said.ok in
    subst (λ texts. IsCheck texts (string_bytes c.in_ok-answer.answer)) same c.in_ok-answer.ensures.ok
