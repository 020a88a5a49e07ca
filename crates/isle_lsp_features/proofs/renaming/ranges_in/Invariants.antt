use Rattle.std.proofs.Common.{◌≡◌, take}
use Rattle.std.specs.List.{flat_map}
use Rattle.isle_index.specs.Renaming.{part_view}
use Rattle.isle_resolve.specs.Names.{named_of}
use Rattle.isle_lsp_features.specs.Renamed.{range_in}
use Rattle.isle_lsp_text.specs.Positions.{IsPlace}
use Rattle.isle_lsp_features.proofs.renaming.ranges_in.Given as goal

abbrev pub invariant-loop-pos : goal.invariant-loop-pos
invariant-loop-pos l = record {
  so_far : l.ranges.items ≡ flat_map (range_in l.source.encoding l.number l.source.text.now (named_of l.name) (part_view l.part)) (take l.pos-index l.places);
  near : IsPlace l.source.encoding l.source.text.now l.near;
}
