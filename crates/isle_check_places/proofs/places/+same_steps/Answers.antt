use Rattle.std.proofs.Common.{◌&&◌, sym, ap, ◌∙◌}
use Rattle.isle_check_places.specs.Places.{same_place}
use Rattle.isle_check_places.specs.Views.{place_of}
use Rattle.isle_check_places.proofs.PlaceLemmas.{none_is_other, same_by_ends}
use Rattle.isle_check_places.proofs.places.+same_steps.Goals as goal

pub returns-in-None-split_last : goal.returns-in-None-split_last
returns-in-None-split_last t c =
    none_is_other c.args.a.now c.args.b.now c.in-Some.more.now c.in-Some.step.now c.in-Some.ensures.cases.0 c.in-None-split_last.ensures.cases

pub returns-then-same_step : goal.returns-then-same_step
returns-then-same_step t c =
    let more = c.in-Some.more.now in
    let others = c.in-Some-split_last.others.now in
    c.same_steps.ensures
    ∙ sym (same_by_ends c.args.a.now c.args.b.now more others c.in-Some.step.now c.in-Some-split_last.other.now c.in-Some.ensures.cases.0 c.in-Some-split_last.ensures.cases.0
    ∙ ap (λ r. r && same_place (place_of more) (place_of others)) (sym c.same_step.ensures ∙ c.if-same_step.true))

pub returns-else-same_step : goal.returns-else-same_step
returns-else-same_step t c =
    let more = c.in-Some.more.now in
    let others = c.in-Some-split_last.others.now in
    c.if-same_step.false
    ∙ sym (same_by_ends c.args.a.now c.args.b.now more others c.in-Some.step.now c.in-Some-split_last.other.now c.in-Some.ensures.cases.0 c.in-Some-split_last.ensures.cases.0
    ∙ ap (λ r. r && same_place (place_of more) (place_of others)) (sym c.same_step.ensures ∙ c.if-same_step.false))
