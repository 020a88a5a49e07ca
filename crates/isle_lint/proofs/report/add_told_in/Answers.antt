use Rattle.isle_lint.proofs.report.add_told_in.Goals as goal

pub returns : goal.returns
returns c = (c.in_ok-allowances.allowances, rw c.as_str.ensures.value at c.in_ok-allowances.ensures, c.in_ok-add_told.ensures)
