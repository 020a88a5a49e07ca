use Rattle.std.proofs.Common.{◌≡◌, [], length, reverse}
use Rattle.isle_lsp_context.specs.Places.{slot_from}
use Rattle.isle_lsp_context.proofs.places.slot_ahead.Given as goal

abbrev pub invariant-loop-ahead : goal.invariant-loop-ahead
invariant-loop-ahead l =
    slot_from l.text l.offset l.scanner.ending (reverse l.lists.items) l.scanner.coming
    ≡ slot_from l.text l.offset l.fn.scanner.ending [] l.fn.scanner.coming

abbrev pub decreases-loop-ahead : goal.decreases-loop-ahead
decreases-loop-ahead l = length l.scanner.coming
