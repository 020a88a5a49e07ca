use Rattle.isle_lsp_text.proofs.definitions.is_keyword.Goals as goal

pub returns : goal.returns
returns c = c.contains.ensures.value
