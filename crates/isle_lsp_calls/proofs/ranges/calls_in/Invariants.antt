use Rattle.std.proofs.Common.{◌≡◌, take}
use Rattle.std.specs.List.{flat_map}
use Rattle.isle_lsp_calls.specs.Ranges.{call_in}
use Rattle.isle_lsp_calls.proofs.ranges.calls_in.Given as goal

abbrev pub invariant-loop-occurrence : goal.invariant-loop-occurrence
invariant-loop-occurrence l = l.ranges.items ≡ flat_map (call_in l.ruler.encoding l.number l.ruler.text.now l.callers) (take l.occurrence-index l.found)
