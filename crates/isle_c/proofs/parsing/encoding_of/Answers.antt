use Rattle.isle_c.proofs.parsing.encoding_of.Goals as goal

pub returns-in-Err-Error-clause-err : goal.returns-in-Err-Error-clause-err
returns-in-Err-Error-clause-err c =
    let said = rw c.in-Err-Error.field-0-is at c.in-Err-Error.ensures.refused in
    (c.utf8.text, said)
