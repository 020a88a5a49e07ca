use Rattle.std.proofs.Common.{◌≡◌, ◌++◌, map, drop}
use Rattle.isle_index.specs.Held.{all_in}
use Rattle.isle_lsp_protocol.specs.Items.{item_data}
use Rattle.isle_lsp_features.specs.Defined.{symbols_from}
use Rattle.isle_lsp_features.specs.Programs.{text_of}
use Rattle.isle_lsp_features.proofs.symbols.workspace_symbols.Given as goal

abbrev pub invariant-loop-file : goal.invariant-loop-file
invariant-loop-file l =
    map item_data l.items.items ++ symbols_from l.file l.query (map text_of (drop l.file l.program)) (all_in l.index)
    ≡ symbols_from 0 l.query (map text_of l.program) (all_in l.index)
