use Rattle.std.proofs.Common.{List, ◌++◌, map, drop}
use Rattle.serde_json.specs.Data.{Data}
use Rattle.isle_lsp_protocol.specs.Items.{item_data}
use Rattle.isle_lsp_features.specs.Implemented.{AreImplementationsFrom}
use Rattle.isle_lsp_features.specs.Programs.{text_of}
use Rattle.isle_lsp_features.proofs.implementations.implementations_in.Given as goal

abbrev pub invariant-loop-number : goal.invariant-loop-number
invariant-loop-number l =
    (rest : List Data) → AreImplementationsFrom l.number (map text_of (drop l.number l.program)) l.found rest
    → AreImplementationsFrom 0 (map text_of l.program) l.found (map item_data l.items.items ++ rest)
