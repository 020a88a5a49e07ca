use Rattle.std.proofs.Common.{◌≡◌, drop}
use Rattle.std.specs.List.{list_any}
use Rattle.isle_lsp_text.specs.Calls.{calls_at}
use Rattle.isle_lsp_text.proofs.calls.some_calls_at.Given as goal

abbrev pub invariant-loop-caller : goal.invariant-loop-caller
invariant-loop-caller l = list_any (calls_at l.offset) (drop l.caller-index l.callers) ≡ list_any (calls_at l.offset) l.callers
