use Rattle.isle_lsp_diagnostics.proofs.texts.read_tree.Goals as goal

pub returns-in-Err-Error-clause-ok : goal.returns-in-Err-Error-clause-ok
returns-in-Err-Error-clause-ok c =
    let read = rw c.in-Err-Error.field-0-is at c.in-Err-Error.ensures in record { file = _; error = c.in-Err-Error.field-0-0; refused = read.read }
