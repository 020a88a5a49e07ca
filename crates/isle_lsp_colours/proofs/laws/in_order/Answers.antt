use Rattle.isle_lsp_colours.proofs.Lexed.{tokens_in_order}
use Rattle.isle_lsp_colours.proofs.laws.in_order.Goals as goal

pub returns : goal.returns
returns c = tokens_in_order
