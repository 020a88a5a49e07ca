use Rattle.std.proofs.lemmas.Result.{on_ok_weaker, on_err_weaker}
use Rattle.isle_lsp.proofs.Talks.{answers_as, stops_at}
use Rattle.isle_lsp.proofs.conversation.answer_message.Goals as goal

pub returns-clause-ok : goal.returns-clause-ok
returns-clause-ok g c = λ moments e.
    on_ok_weaker c.write_frames.result (λ w. answers_as _ _ _ _ _ _ _ _ (c.in_ok-sent.ensures.ok moments e) w) (rw c.deref.ensures.value at c.write_frames.ensures.ok)

pub returns-clause-err : goal.returns-clause-err
returns-clause-err g c = λ moments e.
    on_err_weaker c.write_frames.result (λ w. stops_at _ _ _ _ _ _ _ _ (c.in_ok-sent.ensures.ok moments e) w) (rw c.deref.ensures.value at c.write_frames.ensures.part)
