use Rattle.std.proofs.Common.{map}
use Rattle.std.proofs.lemmas.Result.{IfOk-weaker}
use Rattle.serde_json.specs.View.{view}
use Rattle.isle_lsp_actions.proofs.Depths.{shallow}
use Rattle.isle_lsp_actions.specs.Actions.{action_of}
use Rattle.isle_lsp_actions.proofs.code_actions.Goals as goal

pub returns-clause-shallow : goal.returns-clause-shallow
returns-clause-shallow c =
    let d = c.args.document in
    IfOk-weaker c.actions_value.result _ _ (λ value. shallow c.args.encoding c.args.takes_document_changes d.uri.now d.version d.text.now (map action_of c.deref.result.now) (view value)) c.actions_value.ensures
