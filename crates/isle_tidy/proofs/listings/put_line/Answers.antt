use Rattle.std.proofs.lemmas.Result.{err_from_is_err_and}
use Rattle.isle_tidy.proofs.StreamLemmas.{cut-front, cut-behind}
use Rattle.isle_tidy.proofs.listings.put_line.Goals as goal

pub returns-in_err-put-clause-err : goal.returns-in_err-put-clause-err
returns-in_err-put-clause-err g c =
    let p = err_from_is_err_and c.from_residual.result c.from_residual.ensures.1 in
    rw (p.1, p.2) (cut-front _ _ _ _ _ c.in_err-put.ensures.err)

pub returns-clause-err : goal.returns-clause-err
returns-clause-err g c =
    cut-behind _ _ _ _ _ c.put-2.result c.in_ok-put.ensures.ok c.put-2.ensures.err
