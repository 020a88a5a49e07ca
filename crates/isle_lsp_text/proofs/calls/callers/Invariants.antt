use Rattle.std.proofs.Common.{◌≡◌, ◌++◌, drop}
use Rattle.std.specs.List.{filter_map}
use Rattle.isle_lsp_text.specs.Calls.{caller_at}
use Rattle.isle_lsp_text.proofs.calls.callers.Given as goal

abbrev pub invariant-loop-name : goal.invariant-loop-name
invariant-loop-name l =
    l.found.items ++ filter_map (caller_at l.definitions.items) (drop l.name-index l.name-items) ≡ filter_map (caller_at l.definitions.items) l.name-items
