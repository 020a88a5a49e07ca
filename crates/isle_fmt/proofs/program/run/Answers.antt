use Rattle.std.proofs.Common.{rules, tests}
use Rattle.isle_fmt.proofs.FailureLemmas.{refused-told, told-text}
use Rattle.isle_fmt.proofs.program.run.Goals as goal

pub returns-in-Err-clause-refused : goal.returns-in-Err-clause-refused
returns-in-Err-clause-refused g c =
    λ one. refused-told _ c.this_program.ensures _ _ _ _ _ _ _ _ c.in-Err.failure c.in-Err.ensures.err c.report.ensures.text c.report.ensures.status one

pub returns-in-Err-clause-told : goal.returns-in-Err-clause-told
returns-in-Err-clause-told g c =
    λ _. told-text _ c.this_program.ensures _ _ _ _ _ _ _ _ c.in-Err.failure c.in-Err.ensures.err c.report.ensures.text c.report.ensures.status

pub returns-in-Ok-clause-statuses : goal.returns-in-Ok-clause-statuses
returns-in-Ok-clause-statuses g c = search (tests, rules)

pub returns-in-Ok-clause-unwritten : goal.returns-in-Ok-clause-unwritten
returns-in-Ok-clause-unwritten g c = search (tests, rules)

pub returns-in-Ok-clause-quiet : goal.returns-in-Ok-clause-quiet
returns-in-Ok-clause-quiet g c = search (tests, rules)
