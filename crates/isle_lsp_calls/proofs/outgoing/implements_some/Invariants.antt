use Rattle.std.proofs.Common.{◌≡◌, drop}
use Rattle.std.specs.List.{list_any}
use Rattle.isle_lsp_calls.specs.Outgoing.{is_named}
use Rattle.isle_lsp_calls.proofs.outgoing.implements_some.Given as goal

abbrev pub invariant-loop-caller : goal.invariant-loop-caller
invariant-loop-caller l = list_any (is_named l.offset) (drop l.caller-index l.callers) ≡ list_any (is_named l.offset) l.callers
