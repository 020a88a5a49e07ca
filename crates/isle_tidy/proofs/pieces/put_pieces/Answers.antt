use Rattle.std.proofs.Common.{Ok, ap}
use Rattle.isle_tidy.proofs.PieceLemmas.{goes_further, others_ok, others_err}
use Rattle.isle_tidy.proofs.pieces.put_pieces.Goals as goal

pub put_others-requires : goal.put_others-requires
put_others-requires g c =
    goes_further c.args.tidying.now c.put_piece.new.tidying _ _ c.requires (c.in-Ok-true.ensures.more (ap Ok c.in-Ok-true.field-0-test))

pub returns-in-Ok-true-clause-ok : goal.returns-in-Ok-true-clause-ok
returns-in-Ok-true-clause-ok g c =
    others_ok c.put_others.result c.args.tidying.now c.put_piece.new.tidying _ _ _ (c.in-Ok-true.ensures.more (ap Ok c.in-Ok-true.field-0-test)) c.put_others.ensures.ok

pub returns-in-Ok-true-clause-err : goal.returns-in-Ok-true-clause-err
returns-in-Ok-true-clause-err g c =
    others_err c.put_others.result c.args.tidying.now c.put_piece.new.tidying _ _ _ (c.in-Ok-true.ensures.more (ap Ok c.in-Ok-true.field-0-test)) c.put_others.ensures.err
