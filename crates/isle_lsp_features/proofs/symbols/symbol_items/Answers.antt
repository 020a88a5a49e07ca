use Rattle.std.proofs.Common.{◌∙◌, ap, map}
use Rattle.serde_json.specs.Data.{array}
use Rattle.serde_json.specs.View.{items_of}
use Rattle.isle_index.specs.Symbols.{symbol_of}
use Rattle.isle_lsp_protocol.specs.Items.{item_data}
use Rattle.isle_lsp_features.specs.Defined.{symbol_data}
use Rattle.isle_lsp_text.proofs.Places.{start_place}
use Rattle.isle_lsp_features.proofs.Lists.{each_of, map_map}
use Rattle.isle_lsp_features.proofs.symbols.symbol_items.Goals as goal

pub loop-symbol-init : goal.loop-symbol-init
loop-symbol-init c = record { so_far = ap (map item_data) c.new-items.ensures.items; near = start_place c.args.encoding c.args.text.now }

pub returns : goal.returns
returns c =
    ap (λ ds. array (items_of ds))
    (each_of (λ s. symbol_data c.args.encoding c.args.text.now c.args.lists.now (symbol_of s)) c.args.symbols.now c.loop-symbol.symbol-index (map item_data c.loop-symbol.items.items) c.loop-symbol-test.false c.loop-symbol.invariant.so_far
    ∙ map_map (symbol_data c.args.encoding c.args.text.now c.args.lists.now) symbol_of c.args.symbols.now)
