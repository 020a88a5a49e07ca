use Rattle.std.proofs.Common.{sym}
use Rattle.std.proofs.lemmas.Result.{on_ok_weaker}
use Rattle.serde_json.specs.View.{number_view, view}
use Rattle.isle_lsp_protocol.proofs.Ids.{adds_null, adds_number, adds_text}
use Rattle.isle_lsp_protocol.proofs.replies.put_id.Goals as goal

pub returns-in-Some-default-clause-adds : goal.returns-in-Some-default-clause-adds
returns-in-Some-default-clause-adds c =
    on_ok_weaker c.string.result (λ is k. adds_text (view c.args.id.now) c.in-Some-default.text.now _ _ (sym c.in-Some-default.ensures) is) c.string.ensures.ok

pub returns-in-None-Some-clause-adds : goal.returns-in-None-Some-clause-adds
returns-in-None-Some-clause-adds c =
    on_ok_weaker c.put_number.result (λ a k. adds_number (view c.args.id.now) (number_view c.in-None-Some.number.now) _ _ (sym c.in-None-Some.ensures') a) c.put_number.ensures.adds

pub returns-in-None-None-clause-adds : goal.returns-in-None-None-clause-adds
returns-in-None-None-clause-adds c =
    on_ok_weaker c.null.result (λ is k. adds_null (view c.args.id.now) _ _ (sym c.in-None-None.ensures) (sym c.in-None-None.ensures') k is) c.null.ensures.ok
