use Rattle.isle_tidy.proofs.PieceLemmas.{tidied_err, tidied_ok}
use Rattle.isle_tidy.proofs.pieces.put_tidied.Goals as goal

pub returns-in-Ok-clause-ok : goal.returns-in-Ok-clause-ok
returns-in-Ok-clause-ok g c = tidied_ok c.put_pieces.result c.in-Ok.tidying c.args.text.now _ _ c.in-Ok.ensures.begun c.put_pieces.ensures.ok

pub returns-in-Ok-clause-err : goal.returns-in-Ok-clause-err
returns-in-Ok-clause-err g c = tidied_err c.put_pieces.result c.in-Ok.tidying c.args.name.now c.args.text.now _ _ c.in-Ok.ensures.begun c.put_pieces.ensures.err
