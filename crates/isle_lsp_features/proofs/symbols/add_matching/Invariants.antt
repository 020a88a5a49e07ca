use Rattle.std.proofs.Common.{◌≡◌, ◌++◌, map, drop}
use Rattle.std.specs.List.{flat_map}
use Rattle.isle_lsp_text.specs.Positions.{IsPlace}
use Rattle.isle_index.specs.Symbols.{symbol_of}
use Rattle.isle_lsp_protocol.specs.Items.{item_data}
use Rattle.isle_lsp_features.specs.Defined.{symbol_in}
use Rattle.isle_lsp_features.specs.Programs.{text_of}
use Rattle.isle_lsp_features.proofs.symbols.add_matching.Given as goal

abbrev pub invariant-loop-symbol : goal.invariant-loop-symbol
invariant-loop-symbol l = record {
  so_far : map item_data l.items.items ++ flat_map (symbol_in l.query (text_of l.source)) (map symbol_of (drop l.symbol-index l.symbols)) ≡ map item_data l.fn.items.items ++ flat_map (symbol_in l.query (text_of l.source)) (map symbol_of l.symbols);
  near : IsPlace l.source.encoding l.source.text.now l.near;
}
