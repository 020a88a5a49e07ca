use Rattle.std.proofs.Common.{◌≡◌, drop}
use Rattle.isle_lsp_calls.specs.Outgoing.{implements}
use Rattle.isle_lsp_calls.proofs.outgoing.implements.Given as goal

abbrev pub invariant-loop-occurrence : goal.invariant-loop-occurrence
invariant-loop-occurrence l = implements l.number (drop l.occurrence-index l.found) l.caller ≡ implements l.number l.found l.caller
