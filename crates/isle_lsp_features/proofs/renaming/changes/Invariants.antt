use Rattle.std.proofs.Common.{◌≡◌, ◌++◌, map, drop}
use Rattle.serde_json.specs.Data.{no_members}
use Rattle.isle_lsp_features.specs.Programs.{text_of}
use Rattle.isle_index.specs.Renaming.{part_view}
use Rattle.isle_resolve.specs.Names.{named_of}
use Rattle.isle_lsp_protocol.specs.Items.{item_data, with_changes}
use Rattle.isle_lsp_features.specs.Renamed as wanted
use Rattle.isle_lsp_features.proofs.renaming.changes.Given as goal

abbrev pub invariant-loop-number : goal.invariant-loop-number
invariant-loop-number l = record {
  documents : map item_data l.items.items ++ wanted.changes_from l.number (map text_of (drop l.number l.program)) (named_of l.name) (part_view l.part) l.new l.places
      ≡ wanted.changes_from 0 (map text_of l.program) (named_of l.name) (part_view l.part) l.new l.places;
  plain : wanted.with_changes l.number (map text_of (drop l.number l.program)) (named_of l.name) (part_view l.part) l.new l.places (with_changes l.items.items no_members)
      ≡ wanted.with_changes 0 (map text_of l.program) (named_of l.name) (part_view l.part) l.new l.places no_members;
}
