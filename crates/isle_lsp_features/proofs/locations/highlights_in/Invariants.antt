use Rattle.std.proofs.Common.{◌≡◌, map, take}
use Rattle.std.specs.List.{flat_map}
use Rattle.isle_lsp_text.specs.Positions.{IsPlace}
use Rattle.isle_lsp_protocol.specs.Items.{item_data}
use Rattle.isle_lsp_features.specs.Located.{highlight_of}
use Rattle.isle_lsp_features.proofs.locations.highlights_in.Given as goal

abbrev pub invariant-loop-occurrence : goal.invariant-loop-occurrence
invariant-loop-occurrence l = record {
  so_far : map item_data l.items.items ≡ flat_map (highlight_of l.place.encoding l.place.pos.file l.place.text.now) (take l.occurrence-index l.found);
  near : IsPlace l.place.encoding l.place.text.now l.near;
}
