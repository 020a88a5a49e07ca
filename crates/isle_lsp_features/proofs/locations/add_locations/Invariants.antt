use Rattle.std.proofs.Common.{◌≡◌, ◌++◌, map, drop}
use Rattle.std.specs.List.{flat_map}
use Rattle.isle_lsp_text.specs.Positions.{IsPlace}
use Rattle.isle_lsp_protocol.specs.Items.{item_data}
use Rattle.isle_lsp_features.specs.Located.{location_in}
use Rattle.isle_lsp_features.specs.Programs.{text_of}
use Rattle.isle_lsp_features.proofs.locations.add_locations.Given as goal

abbrev pub invariant-loop-occurrence : goal.invariant-loop-occurrence
invariant-loop-occurrence l = record {
  so_far : map item_data l.items.items ++ flat_map (location_in l.number (text_of l.source) l.with_definitions) (drop l.occurrence-index l.found)
      ≡ map item_data l.fn.items.items ++ flat_map (location_in l.number (text_of l.source) l.with_definitions) l.found;
  near : IsPlace l.source.encoding l.source.text.now l.near;
}
