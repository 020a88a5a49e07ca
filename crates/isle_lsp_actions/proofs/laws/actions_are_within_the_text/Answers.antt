use Rattle.isle_lsp_actions.proofs.Within.{within}
use Rattle.isle_lsp_actions.proofs.laws.actions_are_within_the_text.Goals as goal

pub returns : goal.returns
returns c = within
