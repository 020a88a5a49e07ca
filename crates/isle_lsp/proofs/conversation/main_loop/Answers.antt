use Rattle.std.proofs.Common.{inr, ap, sym, ◌∙◌}
use Rattle.std.proofs.lemmas.Result.{err_from_is_err_and}
use Rattle.isle_lsp.specs.Conversations.{has_exited}
use Rattle.isle_lsp.proofs.Talks.{over, runs_start, runs_on, ran, ran_end, cut, explains_fault, explains_answer}
use Rattle.isle_lsp.proofs.Words.{answer_not_usage, fault_not_usage}
use Rattle.isle_lsp.proofs.conversation.main_loop.Goals as goal

pub loop-init : goal.loop-init
loop-init g c = record {
  goes_on = ap (λ held. has_exited held.state) c.new-server.ensures;
  runs = λ world e m. runs_start world _ _ _ _ c.new-server.ensures e m;
}

pub returns-in-Ok-None-clause-ok : goal.returns-in-Ok-None-clause-ok
returns-in-Ok-None-clause-ok g c = λ world e m. (ran_end world _ _ _ _ _ (c.loop.invariant.runs world e m) _ (rw c.in-Ok-None.field-0-is at c.in-Ok-None.ensures)).0

pub returns-in-Ok-None-clause-over : goal.returns-in-Ok-None-clause-over
returns-in-Ok-None-clause-over g c = λ world e m. inr (inr (ran_end world _ _ _ _ _ (c.loop.invariant.runs world e m) _ (rw c.in-Ok-None.field-0-is at c.in-Ok-None.ensures)).1)

pub returns-in-Err-clause-err : goal.returns-in-Err-clause-err
returns-in-Err-clause-err g c = λ world e m. explains_fault world _ _ _ _ _ (c.loop.invariant.runs world e m) c.in-Err.fault _ c.failure_of.ensures c.in-Err.ensures

pub returns-in_err-answer_message-clause-err : goal.returns-in_err-answer_message-clause-err
returns-in_err-answer_message-clause-err g c = λ world e m.
    let p = err_from_is_err_and c.from_residual.result c.from_residual.ensures.1 in
    rw (p.1, p.2)
    (explains_answer world _ _ _ _ _ (c.loop.invariant.runs world e m) c.loop.invariant.goes_on c.in_err-answer_message.field-0.0 c.in-Ok-Some.body.items _ _ c.in_err-answer_message.ensures.kind (rw c.in-Ok-Some.field-0-is at c.in-Ok-Some.ensures) c.in_err-answer_message.ensures.err)

pub returns-then-has_exited-clause-ok : goal.returns-then-has_exited-clause-ok
returns-then-has_exited-clause-ok g c = λ world e m.
    ran world _ _ _ _ _
    (runs_on world _ _ _ _ _ (c.loop.invariant.runs world e m) c.loop.invariant.goes_on _ c.in-Ok-Some.body.items _ _ _ (rw c.in-Ok-Some.field-0-is at c.in-Ok-Some.ensures) c.in_ok-answer_message.ensures.ok)

pub returns-then-has_exited-clause-over : goal.returns-then-has_exited-clause-over
returns-then-has_exited-clause-over g c = λ world e m. over _ _ (sym c.has_exited.ensures ∙ c.if-has_exited.true)

pub loop-preserved : goal.loop-preserved
loop-preserved g c = record {
  goes_on = sym c.has_exited.ensures ∙ c.if-has_exited.false;
  runs = λ world e m.
      runs_on world _ _ _ _ _ (c.loop.invariant.runs world e m) c.loop.invariant.goes_on _ c.in-Ok-Some.body.items _ _ _ (rw c.in-Ok-Some.field-0-is at c.in-Ok-Some.ensures) c.in_ok-answer_message.ensures.ok;
}

pub returns-clause-err : goal.returns-clause-err
returns-clause-err g c = λ world e m. cut world _ _ _ _ _ (c.loop.invariant.runs world e m)

pub returns-in-Err-clause-kind : goal.returns-in-Err-clause-kind
returns-in-Err-clause-kind g c = fault_not_usage c.in-Err.fault _ c.failure_of.ensures

pub returns-in_err-answer_message-clause-kind : goal.returns-in_err-answer_message-clause-kind
returns-in_err-answer_message-clause-kind g c =
    let p = err_from_is_err_and c.from_residual.result c.from_residual.ensures.1 in
    rw (p.1, p.2) (answer_not_usage c.in_err-answer_message.field-0.0 c.in_err-answer_message.ensures.kind)
