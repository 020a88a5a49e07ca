use Rattle.std.proofs.Common.{[], map, sym, ◌∙◌}
use Rattle.std.proofs.lemmas.List.{append-nil}
use Rattle.isle_lsp_features.specs.Programs.{text_of}
use Rattle.isle_lsp_features.proofs.Marked.{none_here}
use Rattle.isle_lsp_features.proofs.implementations.add_implementations.Goals as goal
use Rattle.isle_lsp_protocol.specs.Items.{item_data}

-- a text in which the name does not occur implements it nowhere
pub returns-else-has_some : goal.returns-else-has_some
returns-else-has_some c =
    ([], none_here c.args.number (text_of c.args.source) c.args.found.now (sym c.has_some.ensures ∙ c.if-has_some.false), sym (append-nil (map item_data c.args.items.now.items)))
