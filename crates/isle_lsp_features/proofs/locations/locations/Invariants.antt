use Rattle.std.proofs.Common.{◌≡◌, ◌++◌, map, drop}
use Rattle.isle_lsp_protocol.specs.Items.{item_data}
use Rattle.isle_lsp_features.specs.Programs.{text_of}
use Rattle.isle_lsp_features.specs.Located.{locations_from}
use Rattle.isle_lsp_features.proofs.locations.locations.Given as goal

abbrev pub invariant-loop-number : goal.invariant-loop-number
invariant-loop-number l =
    map item_data l.items.items ++ locations_from l.number (map text_of (drop l.number l.program)) l.with_definitions l.found
    ≡ locations_from 0 (map text_of l.program) l.with_definitions l.found
