use Rattle.std.proofs.Common.{◌≡◌, ◌++◌, drop, filter}
use Rattle.isle_lsp_text.specs.Calls.{is_definition}
use Rattle.isle_lsp_text.proofs.calls.definitions.Given as goal

abbrev pub invariant-loop-list : goal.invariant-loop-list
invariant-loop-list l =
    l.found.items ++ filter (is_definition l.text) (drop l.list-index l.list-items) ≡ filter (is_definition l.text) l.list-items
