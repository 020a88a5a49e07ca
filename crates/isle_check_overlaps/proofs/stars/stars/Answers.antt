use Rattle.std.proofs.Common.{sym, ◌∙◌, ◌-◌, arith, length}
use Rattle.std.proofs.lemmas.List.{length-map}
use Rattle.isle_check_overlaps.specs.Stars.{stars}
use Rattle.isle_check_overlaps.specs.Views.{pair_of, pairs_of, stars_of}
use Rattle.isle_check_overlaps.proofs.StarLemmas.{stars_end, stars_more, stars_none}
use Rattle.isle_check_overlaps.proofs.stars.stars.Goals as goal

pub returns-then-are_none : goal.returns-then-are_none
returns-then-are_none c =
    let total = length (pairs_of c.args.pairs.items) in
    stars_none (total - c.loop-step._step) c.args.count c.loop-step.left.items (stars_of c.loop-step.made.items)
    (stars total c.args.count (pairs_of c.args.pairs.items)) (sym c.are_none.ensures ∙ c.if-are_none.true) c.loop-step.invariant

pub loop-step-preserved : goal.loop-step-preserved
loop-step-preserved c =
    let total = length (pairs_of c.args.pairs.items) in
    stars_more total c.loop-step._step c.args.count c.loop-step.left.items (pairs_of c.in_ok-left.left.items) (stars_of c.loop-step.made.items)
    (stars_of c.add_star.new.made.items) (stars total c.args.count (pairs_of c.args.pairs.items))
    (omega (arith, c.loop-step-test.true, c.len-step-end.ensures, length-map c.args.pairs.items pair_of)) (sym c.are_none.ensures ∙ c.if-are_none.false)
    c.in_ok-left.ensures.told c.in_ok-left.ensures.left c.loop-step.invariant

pub returns : goal.returns
returns c =
    let total = length (pairs_of c.args.pairs.items) in
    stars_end total c.loop-step._step c.args.count (pairs_of c.loop-step.left.items) (stars_of c.loop-step.made.items)
    (stars total c.args.count (pairs_of c.args.pairs.items))
    (omega (arith, c.loop-step-test.false, c.len-step-end.ensures, length-map c.args.pairs.items pair_of)) c.loop-step.invariant
