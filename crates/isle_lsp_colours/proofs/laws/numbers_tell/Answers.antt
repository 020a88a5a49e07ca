use Rattle.isle_lsp_colours.proofs.Ahead.{numbers_told}
use Rattle.isle_lsp_colours.proofs.laws.numbers_tell.Goals as goal

pub returns : goal.returns
returns c = numbers_told
