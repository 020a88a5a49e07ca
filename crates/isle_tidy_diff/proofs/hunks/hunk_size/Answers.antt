use Rattle.std.proofs.Common.{◌≡◌, ◌-◌, ◌∙◌, arith, drop, false, length, sym, take, true}
use Rattle.isle_tidy_diff.specs.Edits.{edits_of}
use Rattle.isle_tidy_diff.specs.Unified.{is_shown}
use Rattle.isle_tidy_diff.proofs.RowLemmas.{counted-all, edits-at, edits-past, edits-rest, new-counted, no-new, no-old, none-new, none-old, old-counted, one-new, one-old}
use Rattle.isle_tidy_diff.proofs.hunks.hunk_size.Goals as goal

pub returns-then-not-is_shown-clause-old : goal.returns-then-not-is_shown-clause-old
returns-then-not-is_shown-clause-old c =
    let off : is_shown c.loop-at.left (edits_of (take (length c.args.rest.now - c.loop-at.at) (drop c.loop-at.at c.args.rest.now))) ≡ false = sym c.is_shown.ensures ∙ c.if-not-is_shown.true in
    counted-all c.loop-at.size.old _ _ (no-old c.loop-at.left _ (edits_of (drop c.loop-at.at c.args.rest.now)) (edits-rest c.args.rest.now c.loop-at.at) off) c.loop-at.invariant.old

pub returns-then-not-is_shown-clause-new : goal.returns-then-not-is_shown-clause-new
returns-then-not-is_shown-clause-new c =
    let off : is_shown c.loop-at.left (edits_of (take (length c.args.rest.now - c.loop-at.at) (drop c.loop-at.at c.args.rest.now))) ≡ false = sym c.is_shown.ensures ∙ c.if-not-is_shown.true in
    counted-all c.loop-at.size.new _ _ (no-new c.loop-at.left _ (edits_of (drop c.loop-at.at c.args.rest.now)) (edits-rest c.args.rest.now c.loop-at.at) off) c.loop-at.invariant.new

pub loop-at-preserved : goal.loop-at-preserved
loop-at-preserved c =
    let here = edits-at c.args.rest.now c.loop-at.at _ c.loop-at-test.true in
    let slice = edits-rest c.args.rest.now c.loop-at.at ∙ here in
    let on : is_shown c.loop-at.left (edits_of (take (length c.args.rest.now - c.loop-at.at) (drop c.loop-at.at c.args.rest.now))) ≡ true = sym c.is_shown.ensures ∙ c.if-not-is_shown.false in
    record {
      few_old = omega (arith, one-old c.in_old.result _ c.in_old.ensures, c.loop-at.invariant.few_old);
      few_new = omega (arith, one-new c.in_new.result _ c.in_new.ensures, c.loop-at.invariant.few_new);
      old = old-counted c.loop-at.left c.left_behind-left.result c.loop-at.size.old c.in_old.result _ _ _ _ _ slice here on c.left_behind-left.ensures c.in_old.ensures c.loop-at.invariant.old;
      new = new-counted c.loop-at.left c.left_behind-left.result c.loop-at.size.new c.in_new.result _ _ _ _ _ slice here on c.left_behind-left.ensures c.in_new.ensures c.loop-at.invariant.new;
    }

pub returns-clause-old : goal.returns-clause-old
returns-clause-old c =
    counted-all c.loop-at.size.old _ _ (none-old c.loop-at.left _ (edits-past c.args.rest.now c.loop-at.at c.loop-at-test.false)) c.loop-at.invariant.old

pub returns-clause-new : goal.returns-clause-new
returns-clause-new c =
    counted-all c.loop-at.size.new _ _ (none-new c.loop-at.left _ (edits-past c.args.rest.now c.loop-at.at c.loop-at-test.false)) c.loop-at.invariant.new
