use Rattle.std.proofs.Common.{sym, ◌∙◌, arith}
use Rattle.isle_check_places.specs.declared.places.Step.TheVariants as steps
use Rattle.isle_check_places.proofs.values.NextLemmas.{is_next, is_other, is_short}
use Rattle.isle_check_places.proofs.values.next.next_step.Goals as goal

pub returns-then-place-count : goal.returns-then-place-count
returns-then-place-count c = is_short c.args.at.now c.args.place.now (omega arith)

pub returns-then-same_place : goal.returns-then-same_place
returns-then-same_place c =
    is_next c.args.at.now c.args.place.now (steps.Argument 0) (omega arith) (sym c.same_place.ensures ∙ c.if-same_place.true)

pub returns-else-same_place : goal.returns-else-same_place
returns-else-same_place c = is_other c.args.at.now c.args.place.now (sym c.same_place.ensures ∙ c.if-same_place.false)
