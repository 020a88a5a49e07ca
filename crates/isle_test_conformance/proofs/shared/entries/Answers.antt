use Rattle.std.proofs.Common.{◌++◌}
use Rattle.isle_test_conformance.proofs.shared.entries.Goals as goal

pub loop-preserved : goal.loop-preserved
loop-preserved c =
    let so_far = c.loop.invariant in
    let put = c.put_next.ensures.more (cc) c.args.text.now so_far.0 so_far.1 in
    (so_far.0 ++ put.0, put.2)
