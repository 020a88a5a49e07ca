use Rattle.std.proofs.Common.{List, ◌++◌, map, drop}
use Rattle.serde_json.specs.Data.{Data}
use Rattle.serde_json.specs.View.{view}
use Rattle.isle_index.specs.Held.{all_in}
use Rattle.isle_lsp_calls.specs.Outgoing.{AreCallsOf}
use Rattle.isle_lsp_calls.specs.Outlines.{outlined}
use Rattle.isle_lsp_calls.proofs.outgoing.calls_of.Given as goal

abbrev pub invariant-loop-word : goal.invariant-loop-word
invariant-loop-word l =
    (rest : List Data) → AreCallsOf l.ruler.encoding (map outlined l.outlines) l.number l.ruler.text.now l.callers (all_in l.index) (map (λ word. word.now) (drop l.word-index l.words)) rest
    → AreCallsOf l.ruler.encoding (map outlined l.outlines) l.number l.ruler.text.now l.callers (all_in l.index) (map (λ word. word.now) l.words) (map view l.calls.items ++ rest)
