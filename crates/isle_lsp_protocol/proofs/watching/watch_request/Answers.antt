use Rattle.std.proofs.Common.{◌≡◌, Some, ap, refl, ◌∙◌}
use Rattle.std.proofs.lemmas.Result.{IfOk-weaker}
use Rattle.serde_json.specs.Read.{read}
use Rattle.serde_json.proofs.OnLiterals.{serde_json_on_literals}
use Rattle.isle_lsp_protocol.specs.Watching.{watch_request}
use Rattle.isle_lsp_protocol.specs.declared.watching.TheConstants.{WATCH_REQUEST}
use Rattle.isle_lsp_protocol.proofs.watching.watch_request.Goals as goal

is_read : read WATCH_REQUEST.now ≡ Some watch_request
unfolding serde_json_on_literals
is_read = refl

pub returns : goal.returns
returns c = IfOk-weaker c.from_str.result _ _ (λ _ is. ap read is ∙ is_read) c.from_str.ensures.ok
