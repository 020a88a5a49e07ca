use Rattle.std.proofs.Common.{◌≡◌, ◌++◌, map, drop}
use Rattle.std.specs.List.{flat_map}
use Rattle.serde_json.specs.View.{view}
use Rattle.isle_index.specs.Held.{all_in}
use Rattle.isle_lsp_calls.specs.Incoming.{incoming_in}
use Rattle.isle_lsp_calls.specs.Sources.{source}
use Rattle.isle_lsp_calls.proofs.incoming.add_incoming.Given as goal

abbrev pub invariant-loop-caller : goal.invariant-loop-caller
invariant-loop-caller l =
    let by = incoming_in l.number (source l.ruler.encoding l.source.uri.now l.ruler.text.now) (all_in l.index) l.found in
    map view l.calls.items ++ flat_map by (drop l.caller-index l.caller-items) ≡ map view l.fn.calls.items ++ flat_map by l.caller-items
