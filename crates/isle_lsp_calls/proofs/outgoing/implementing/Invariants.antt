use Rattle.std.proofs.Common.{◌≡◌, ◌++◌, drop, filter}
use Rattle.isle_lsp_calls.specs.Outgoing.{implements}
use Rattle.isle_lsp_calls.proofs.outgoing.implementing.Given as goal

abbrev pub invariant-loop-caller : goal.invariant-loop-caller
invariant-loop-caller l =
    l.asked.items ++ filter (implements l.number l.found) (drop l.caller-index l.callers) ≡ filter (implements l.number l.found) l.callers
