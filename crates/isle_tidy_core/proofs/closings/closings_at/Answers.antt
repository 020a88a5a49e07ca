use Rattle.std.proofs.Common.{◌∙◌, ap, sym, arith, drop, refl}
use Rattle.isle_tidy_layout.specs.declared.entries.Gap.TheVariants.{Beside}
use Rattle.isle_tidy_core.proofs.Ahead.{ahead, ahead_closings, ahead_else}
use Rattle.std.proofs.lemmas.Bool.{ne_eqb}
use Rattle.std.proofs.lemmas.List.{drop_all}
use Rattle.isle_tidy_core.proofs.closings.closings_at.Goals as goal

pub returns-then-not-is_space_or_tab : goal.returns-then-not-is_space_or_tab
returns-then-not-is_space_or_tab c = λ es s.
    let told = ahead_closings es (Beside 0) (drop c.args.from c.args.bytes.now) refl s in
    let none = ahead_else c.args.bytes.now c.loop-at.at (omega arith) (ne_eqb _ 41 c.if-byte-eq41.false) (sym c.is_space_or_tab.ensures ∙ c.if-not-is_space_or_tab.true) in
    omega (arith, told, none, c.loop-at.invariant.0)

pub returns : goal.returns
returns c = λ es s.
    let told = ahead_closings es (Beside 0) (drop c.args.from c.args.bytes.now) refl s in
    let none = ap ahead (drop_all c.loop-at.at c.args.bytes.now (omega arith)) in
    omega (arith, told, none, c.loop-at.invariant.0)
