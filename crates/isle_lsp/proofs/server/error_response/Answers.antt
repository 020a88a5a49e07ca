use Rattle.std.proofs.Common.{◌≡◌}
use Rattle.isle_lsp.proofs.server.error_response.Goals as goal

pub returns : goal.returns
returns c = rw c.reason_of.ensures at c.refusal.ensures
