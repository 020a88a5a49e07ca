use Rattle.std.proofs.Common.{arith, sym, ◌∙◌}
use Rattle.isle_base.proofs.Places.{opens_room, closes_room, walk_open, walk_close, walk_byte, walk_fails}
use Rattle.isle_base.proofs.scanner.skips.block_comment_end.Goals as goal

pub loop-depth-preserved-then-opens_at : goal.loop-depth-preserved-then-opens_at
loop-depth-preserved-then-opens_at c =
    let here = sym c.opens_at.ensures ∙ c.if-opens_at.true in
    let room = opens_room c.args.bytes.now c.loop-depth.at here in
    (omega arith, omega arith, walk_open c.args.bytes.now c.args.from c.loop-depth.at c.loop-depth.depth c.loop-depth.invariant.2 c.loop-depth-test.true here)

pub loop-depth-preserved-then-closes_at : goal.loop-depth-preserved-then-closes_at
loop-depth-preserved-then-closes_at c =
    let here = sym c.closes_at.ensures ∙ c.if-closes_at.true in
    let room = closes_room c.args.bytes.now c.loop-depth.at here in
    (omega arith, omega arith, walk_close c.args.bytes.now c.args.from c.loop-depth.at c.loop-depth.depth c.loop-depth.invariant.2 c.loop-depth-test.true here)

pub loop-depth-preserved : goal.loop-depth-preserved
loop-depth-preserved c =
    (omega arith, omega arith, walk_byte c.args.bytes.now c.args.from c.loop-depth.at c.loop-depth.depth c.loop-depth.invariant.2 c.loop-depth-test.true (sym c.opens_at.ensures ∙ c.if-opens_at.false) (sym c.closes_at.ensures ∙ c.if-closes_at.false) c.if-at-bytes.true)

pub returns-else-at-bytes : goal.returns-else-at-bytes
returns-else-at-bytes c =
    walk_fails c.args.bytes.now c.args.from c.loop-depth.at c.loop-depth.depth c.loop-depth.invariant.2 c.loop-depth-test.true c.if-at-bytes.false
