use Rattle.std.proofs.Common.{sym}
use Rattle.isle_lsp_features.proofs.Completing.{no_sign}
use Rattle.isle_lsp_features.proofs.completion.constant.Goals as goal

pub returns-in-None : goal.returns-in-None
returns-in-None c = sym (no_sign c.args.label.now c.in-None.ensures.cases)
