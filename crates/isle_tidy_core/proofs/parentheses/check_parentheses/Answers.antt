use Rattle.isle_tidy_core.proofs.Matching.{refused_start, unmatched_within, unmatched_refused}
use Rattle.isle_tidy_core.proofs.parentheses.check_parentheses.Goals as goal

pub returns-in-Err-clause-refused : goal.returns-in-Err-clause-refused
returns-in-Err-clause-refused c = refused_start c.args.text.now c.in-Err.fault c.in-Err.ensures.refused

pub refusal-requires : goal.refusal-requires
refusal-requires c =
    let read = c.loop-parentheses.invariant.0 in
    let found = rw c.in-Unmatched.is at (c.in_ok-take_next.ensures.found c.args.text.now read.0 read.1) in
    unmatched_within c.args.text.now c.in-Unmatched.at found

pub returns-in-Unmatched-clause-refused : goal.returns-in-Unmatched-clause-refused
returns-in-Unmatched-clause-refused c =
    let read = c.loop-parentheses.invariant.0 in
    let found = rw c.in-Unmatched.is at (c.in_ok-take_next.ensures.found c.args.text.now read.0 read.1) in
    unmatched_refused c.args.text.now c.in-Unmatched.at c.in_ok-error-in-Unmatched.error found c.in_ok-error-in-Unmatched.ensures
