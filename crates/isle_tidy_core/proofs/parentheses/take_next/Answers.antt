use Rattle.isle_tidy_core.proofs.Matching.{unmatched_here, refused_here}
use Rattle.isle_tidy_core.proofs.parentheses.take_next.Goals as goal

pub returns-in-Ok-None-counted-clause-found : goal.returns-in-Ok-None-counted-clause-found
returns-in-Ok-None-counted-clause-found c = λ text taken h.
    let none = c.counted.ensures.none (cc) in
    let took = rw c.in-Ok-Some.field-0-is at c.in-Ok-Some.ensures.token in
    unmatched_here text taken c.args.scanner.now c.next.new.self c.in-Ok-Some.pos c.in-Ok-Some.token c.args.parentheses.now h took none.0 none.1

pub returns-in-Err-clause-refused : goal.returns-in-Err-clause-refused
returns-in-Err-clause-refused c = λ text taken h. refused_here text taken c.args.scanner.now c.next.new.self c.args.parentheses.now c.in-Err.fault h c.in-Err.ensures.refused
