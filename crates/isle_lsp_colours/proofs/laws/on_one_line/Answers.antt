use Rattle.isle_lsp_colours.proofs.OneLine.{on_one_line}
use Rattle.isle_lsp_colours.proofs.laws.on_one_line.Goals as goal

pub returns : goal.returns
returns c = on_one_line
