use Rattle.std.proofs.Common.{Ok, ap, refl}
use Rattle.isle_tidy.proofs.PieceLemmas.{piece_smaller, goes_further, piece_then, rest_then, cut_then}
use Rattle.isle_tidy.proofs.pieces.put_others.Goals as goal

pub loop-smaller : goal.loop-smaller
loop-smaller g c =
    piece_smaller c.loop.tidying c.put_piece.new.tidying _ _ c.loop.invariant.0 (c.in-Ok-true.ensures.more (ap Ok c.in-Ok-true.field-0-test)) (c.in-Ok-true.ensures.moves (ap Ok c.in-Ok-true.field-0-test))

pub loop-preserved : goal.loop-preserved
loop-preserved g c =
    let piece = c.in-Ok-true.ensures.more (ap Ok c.in-Ok-true.field-0-test) in
    (goes_further c.loop.tidying c.put_piece.new.tidying _ _ c.loop.invariant.0 piece, piece_then c.args.tidying.now c.loop.tidying c.put_piece.new.tidying _ _ _ c.loop.invariant.1 piece)

pub returns-in-Ok-false-clause-ok : goal.returns-in-Ok-false-clause-ok
returns-in-Ok-false-clause-ok g c =
    rest_then c.args.tidying.now c.loop.tidying _ _ _ c.loop.invariant.1 (c.in-Ok-false.ensures.last (ap Ok c.in-Ok-false.field-0-test))

pub returns-in-Err-clause-err : goal.returns-in-Err-clause-err
returns-in-Err-clause-err g c = (refl, cut_then c.args.tidying.now c.loop.tidying _ _ _ c.loop.invariant.1 c.in-Err.ensures.err.cut)
