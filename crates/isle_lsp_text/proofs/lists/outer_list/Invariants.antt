use Rattle.std.proofs.Common.{◌≡◌, drop}
use Rattle.isle_lsp_text.specs.Lists.{outer_list}
use Rattle.isle_lsp_text.proofs.lists.outer_list.Given as goal

abbrev pub invariant-loop-list : goal.invariant-loop-list
invariant-loop-list l = outer_list l.offset (drop l.list-index l.lists) ≡ outer_list l.offset l.lists
