use Rattle.std.proofs.Common.{◌≡◌, drop}
use Rattle.isle_lsp_text.specs.Lists.{list_around}
use Rattle.isle_lsp_text.proofs.lists.list_around.Given as goal

abbrev pub invariant-loop-list : goal.invariant-loop-list
invariant-loop-list l = list_around l.depth l.offset (drop l.list-index l.lists) ≡ list_around l.depth l.offset l.lists
