use Rattle.std.proofs.Common.{◌≡◌, ◌++◌, ◌∷◌, drop}
use Rattle.json.specs.Token.{begin_array}
use Rattle.isle_lsp_protocol.proofs.Listings.{AllRead, tokens_of}
use Rattle.isle_lsp_protocol.specs.Items.{item_data}
use Rattle.isle_lsp_protocol.proofs.items.put_items.Given as goal

abbrev pub invariant-loop-item : goal.invariant-loop-item
invariant-loop-item l = record {
  before : l.out.before ≡ l.fn.out.before;
  tokens : l.out.tokens ++ tokens_of item_data (drop l.item-index l.items) ≡ l.fn.out.tokens ++ begin_array ∷ tokens_of item_data l.items;
  reads : AllRead item_data (drop l.item-index l.items) → AllRead item_data l.items;
}
