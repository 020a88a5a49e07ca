use Rattle.std.proofs.Common.{◌≡◌, length}
use Rattle.isle_lsp_context.specs.Calls.{innermost, levels_of}
use Rattle.isle_lsp_context.proofs.calls.innermost.Given as goal

abbrev pub invariant-loop-level : goal.invariant-loop-level
invariant-loop-level l = innermost (levels_of l.lists.items) ≡ innermost (levels_of l.fn.lists.items)

abbrev pub decreases-loop-level : goal.decreases-loop-level
decreases-loop-level l = length l.lists.items
