use Rattle.std.proofs.Common.{◌≡◌, [], length}
use Rattle.isle_base.specs.Steps.{Rises}
use Rattle.isle_lsp_context.specs.Calls.{levels_of, lists_at}
use Rattle.isle_lsp_context.proofs.OpenLists.{AreFew}
use Rattle.isle_lsp_context.proofs.calls.lists_at.Given as goal

abbrev pub invariant-loop-ahead : goal.invariant-loop-ahead
invariant-loop-ahead l = record {
  lists : lists_at l.text l.offset l.scanner.ending (levels_of l.lists.items) l.scanner.coming ≡ lists_at l.text l.offset l.fn.scanner.ending [] l.fn.scanner.coming;
  few : Rises 0 l.scanner.coming → AreFew (levels_of l.lists.items) l.scanner.coming;
}

abbrev pub decreases-loop-ahead : goal.decreases-loop-ahead
decreases-loop-ahead l = length l.scanner.coming
