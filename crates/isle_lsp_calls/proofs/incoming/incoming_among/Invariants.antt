use Rattle.std.proofs.Common.{List, ◌++◌, map, drop}
use Rattle.serde_json.specs.Data.{Data}
use Rattle.serde_json.specs.View.{view}
use Rattle.isle_index.specs.Held.{all_in}
use Rattle.isle_lsp_calls.specs.Incoming.{AreIncomingFrom}
use Rattle.isle_lsp_calls.specs.Sources.{source_of}
use Rattle.isle_lsp_calls.proofs.incoming.incoming_among.Given as goal

abbrev pub invariant-loop-number : goal.invariant-loop-number
invariant-loop-number l =
    (rest : List Data) → AreIncomingFrom l.number (map source_of (drop l.number l.program)) (all_in l.index) l.found rest
    → AreIncomingFrom 0 (map source_of l.program) (all_in l.index) l.found (map view l.calls.items ++ rest)
