use Rattle.isle_tidy.proofs.pieces.failure_of.Goals as goal

pub returns-in-Ok : goal.returns-in-Ok
returns-in-Ok c =
    let said = rw c.in-Error.is at c.requires.refused in
    (said.0, (c.in-Error.error, said.2, c.in-Ok.ensures))
