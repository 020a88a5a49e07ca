use Rattle.std.proofs.Common.{[], arith, length}
use Rattle.std.proofs.lemmas.List.{append-nil, drop_all}
use Rattle.isle_program.proofs.OpeningLemmas.{before_within, in_order}
use Rattle.isle_program.proofs.allowances.allowed_at.Goals as goal

pub lints_behind-requires : goal.lints_behind-requires
lints_behind-requires c = before_within (length c.args.text.now) 0 c.args.openings.now c.loop-opening.opening-index _ c.requires c.loop-opening-test.true

pub returns-clause-each : goal.returns-clause-each
returns-clause-each c =
    let over = drop_all c.loop-opening.opening-index c.args.openings.now (omega (arith, c.loop-opening-test.false)) in
    rw (append-nil _) at (c.loop-opening.invariant [] (rw over (record {})))

pub returns-clause-in_order : goal.returns-clause-in_order
returns-clause-in_order c = in_order c.args.text.now (length c.args.text.now) 0 c.args.openings.now c.loop-opening.list.items c.requires (returns-clause-each c)
