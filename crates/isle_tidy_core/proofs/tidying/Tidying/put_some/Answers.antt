use Rattle.std.proofs.Common.{string_bytes, arith}
use Rattle.isle_tidy_core.proofs.Streams.{more_put, last_put, goes_with}
use Rattle.isle_tidy_core.proofs.tidying.Tidying.put_some.Goals as goal

pub returns-then-len-clause-more : goal.returns-then-len-clause-more
returns-then-len-clause-more c = λ _.
    more_put c.args.self.now c.loop-out.self c.put_next.new.self (string_bytes c.args.out.now) (string_bytes c.loop-out.out) (string_bytes c.put_next.new.out)
    c.loop-out.invariant.2 (c.put_next.ensures.more (cc))

pub loop-out-smaller : goal.loop-out-smaller
loop-out-smaller c =
    goes_with c.loop-out.self c.put_next.new.self (string_bytes c.loop-out.out) (string_bytes c.put_next.new.out) c.loop-out.invariant.0 (c.put_next.ensures.more (cc)) (c.put_next.ensures.moves (cc))

pub loop-out-preserved : goal.loop-out-preserved
loop-out-preserved c =
    let has = c.loop-out.invariant.0 in
    let more = c.put_next.ensures.more (cc) in
    let now = more has.0 has.1 has.2 in (
      (has.0, _, now.2),
      omega (arith, c.loop-out.invariant.1, c.put_next.ensures.moves (cc)),
      more_put c.args.self.now c.loop-out.self c.put_next.new.self (string_bytes c.args.out.now) (string_bytes c.loop-out.out) (string_bytes c.put_next.new.out) c.loop-out.invariant.2 more,
    )

pub returns-clause-last : goal.returns-clause-last
returns-clause-last c = λ _.
    last_put c.args.self.now c.loop-out.self (string_bytes c.args.out.now) (string_bytes c.loop-out.out) (string_bytes c.put_next.new.out)
    c.loop-out.invariant.2 (c.put_next.ensures.last (cc))
