use Rattle.std.proofs.Common.{arith, take}
use Rattle.isle_lsp_context.proofs.Texts.{units_more}
use Rattle.isle_lsp_context.proofs.units.units_before.Goals as goal

pub loop-byte-preserved : goal.loop-byte-preserved
loop-byte-preserved c =
    let more = units_more (take c.min.result c.as_bytes-bytes.result.now) c.loop-byte.byte-index 0 c.loop-byte-test.true in
    record { units = cc; few = omega (arith, c.utf16_count-units.ensures.bound, c.loop-byte.invariant.few) }
