use Rattle.std.proofs.Common.{◌++◌, option_map, ap, ◌∙◌, arith}
use Rattle.isle_check_places.specs.Views.{all_constrained_of, place_of, step_of}
use Rattle.isle_check_places.specs.values.Next.{next_step}
use Rattle.isle_check_places.specs.values.Said.{distinct, extractors_from}
use Rattle.isle_check_places.specs.values.Views.{texts_of}
use Rattle.isle_check_places.proofs.values.SaidLemmas.{none_known, place_after, unknown}
use Rattle.isle_check_places.proofs.values.said.extractors_from.Goals as goal

pub loop-constrained-init : goal.loop-constrained-init
loop-constrained-init c =
    let whole = distinct (extractors_from (all_constrained_of c.args.constraints.now) (place_of c.args.at.now)) in
    ap (λ m. texts_of m ++ unknown (texts_of m) whole) c.new-made.ensures.items ∙ none_known whole

pub loop-constrained-preserved : goal.loop-constrained-preserved
loop-constrained-preserved c =
    let at = place_of c.args.at.now in
    place_after c.args.constraints.now c.loop-constrained.constrained-index c.constrained-item.result at (option_map step_of c.next_step.result)
    (texts_of c.loop-constrained.made.items) (texts_of c.add_extractor.new.made.items)
    (distinct (extractors_from (all_constrained_of c.args.constraints.now) at)) (omega arith) c.constrained-item.is
    (c.next_step.ensures ∙ ap (λ s. next_step at (place_of s)) c.deref.ensures.value) c.in_ok-add_extractor.ensures c.loop-constrained.invariant
