use Rattle.std.proofs.Common.{◌≡◌, map, take}
use Rattle.isle_lsp_text.specs.Positions.{IsPlace}
use Rattle.isle_index.specs.Symbols.{symbol_of}
use Rattle.isle_lsp_protocol.specs.Items.{item_data}
use Rattle.isle_lsp_features.specs.Defined.{symbol_data}
use Rattle.isle_lsp_features.proofs.symbols.symbol_items.Given as goal

abbrev pub invariant-loop-symbol : goal.invariant-loop-symbol
invariant-loop-symbol l = record {
  so_far : map item_data l.items.items ≡ map (λ s. symbol_data l.encoding l.text l.lists (symbol_of s)) (take l.symbol-index l.symbols);
  near : IsPlace l.encoding l.text l.near;
}
