use Rattle.std.proofs.Common.{◌∙◌}
use Rattle.isle_ast_names.proofs.Texts.{any_turned}
use Rattle.isle_lsp_colours.specs.Keywords.{keywords}
use Rattle.isle_lsp_colours.proofs.keywords.is_keyword.Goals as goal

pub returns : goal.returns
returns c = c.contains.ensures.value ∙ any_turned c.args.symbol.now keywords
