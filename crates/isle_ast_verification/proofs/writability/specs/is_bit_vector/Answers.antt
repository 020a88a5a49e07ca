use Rattle.std.proofs.Common.{◌^◌, ◌<◌, ◌≤◌, arith}
use Rattle.std.proofs.Math.Pow.{pow_mono}
use Rattle.std.proofs.lemmas.Bool.Decides.{nat_tests}
use Rattle.isle_ast_verification.proofs.writability.specs.is_bit_vector.Goals as goal

pub returns-then-width-ge128 : goal.returns-then-width-ge128
returns-then-width-ge128 c =
    let more : 2 ^ 128 ≤ 2 ^ c.args.width = pow_mono c.if-width-ge128.true in
    let val : c.args.val < 2 ^ 128 = c.ranges.val.fits in
    let within : c.args.val < 2 ^ c.args.width = omega arith in
    let width : c.args.width < 2 ^ 64 = c.ranges.width.fits in
    grind (arith, nat_tests)
