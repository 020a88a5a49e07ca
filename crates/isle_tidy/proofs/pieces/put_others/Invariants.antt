use Rattle.std.proofs.Common.{◌-◌, List, ℕ, length}
use Rattle.isle_tidy_core.specs.Streams.{HasWritten}
use Rattle.isle_tidy.specs.Pieces.{PutsPiece}
use Rattle.isle_tidy.proofs.pieces.put_others.Given as goal

abbrev pub invariant-loop : goal.invariant-loop
invariant-loop g l =
    ((text : List ℕ) × (before : List ℕ) × HasWritten text before l.tidying)
    × PutsPiece l.fn.tidying l.tidying (g.W.Write.contents l.fn.output) (g.W.Write.contents l.output)

abbrev pub decreases-loop : goal.decreases-loop
decreases-loop g l = length l.tidying.text.now - l.tidying.at
