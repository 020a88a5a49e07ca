use Rattle.std.proofs.Common.{◌-◌, drop, take, arith}
use Rattle.isle_base.specs.Skips.{is_blank}
use Rattle.isle_tidy_core.proofs.Standing.{run_taken}
use Rattle.isle_tidy_core.proofs.reader.any_blanks_at.Goals as goal

pub returns : goal.returns
returns c =
    let end = c.blanks_end-end.result in
    let stop = c.blanks_end-end.ensures.end in
    ((take (end - c.args.from) (drop c.args.from c.args.bytes.now), run_taken is_blank c.args.bytes.now c.args.from end stop, c.gap_of.ensures, omega (arith, stop), c.blanks_end-end.ensures.within), λ h. cc)
