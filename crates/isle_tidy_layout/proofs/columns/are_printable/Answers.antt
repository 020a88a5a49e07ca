use Rattle.std.proofs.Common.{sym, ap, ◌∙◌, arith}
use Rattle.std.proofs.lemmas.Bool.{leb-true}
use lib.Count.{count_trailing_zeros}
use Rattle.isle_base.proofs.LaneLemmas.{run_through, run_stops}
use Rattle.isle_tidy_layout.specs.Columns.{is_printable}
use Rattle.isle_tidy_layout.proofs.columns.are_printable.Goals as goal

pub returns-then-misses-ne0 : goal.returns-then-misses-ne0
returns-then-misses-ne0 c = λ h.
    let found = c.misses-misses.ensures in
    let run = run_stops is_printable c.args.bytes.now c.loop-at.at 32 (omega arith) (omega arith) (omega (arith, found)) ∙ ap (count_trailing_zeros 64) (sym found) in
    omega (arith, leb-true _ _ h, run, c.loop-at.invariant.1)

pub loop-at-preserved : goal.loop-at-preserved
loop-at-preserved c =
    let run = run_through is_printable c.args.bytes.now c.loop-at.at 32 (omega arith) (omega (arith, c.misses-misses.ensures)) in
    (omega arith, omega (arith, run, c.loop-at.invariant.1))
