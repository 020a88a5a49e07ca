use Rattle.std.proofs.Common.{◌++◌, string_bytes, ap, ◌∙◌, arith}
use Rattle.std.proofs.lemmas.Grind.{common_steps}
use Rattle.isle_check_places.specs.UnderView.{under_of}
use Rattle.isle_check_places.specs.Views.{all_constrained_of, place_of}
use Rattle.isle_check_places.specs.values.Shapes.{list_asks, list_text}
use Rattle.isle_check_places.specs.values.Values.{shape, shapes_under}
use Rattle.isle_check_places.specs.values.Views.{known_of}
use Rattle.isle_check_places.proofs.values.ShapeLemmas.{asks_step, counted, several_text, text_step}
use Rattle.isle_check_places.proofs.values.shapes.+shape.Goals as goal

pub put_extractor-returns-clause-asked : goal.put_extractor-returns-clause-asked
put_extractor-returns-clause-asked t c = grind (arith, common_steps, counted)

pub put_said-returns-in_ok-constrain-in-Variant-clause-asked : goal.put_said-returns-in_ok-constrain-in-Variant-clause-asked
put_said-returns-in_ok-constrain-in-Variant-clause-asked t c = grind (arith, common_steps, counted)

pub put_joined-returns-in_ok-put_each-in_default-clause-text : goal.put_joined-returns-in_ok-put_each-in_default-clause-text
put_joined-returns-in_ok-put_each-in_default-clause-text t c = grind (arith, common_steps, several_text)

pub put_under-loop-index-preserved : goal.put_under-loop-index-preserved
put_under-loop-index-preserved t c =
    let under = under_of c.args.under in
    let at = place_of c.args.at.now in
    let inner = ap place_of c.deref.ensures.value ∙ c.in_ok-inner.ensures in
    record {
      text = text_step (λ p. shape (known_of c.args.known) c.args.depth p) under c.loop-index.index c.args.count at (place_of c.deref.result.now)
          (string_bytes c.loop-index.made.text) (string_bytes c.push_str.new.self) (string_bytes c.put_shape.new.made.text)
          (string_bytes c.args.made.now.text ++ list_text (shapes_under (λ p. shape (known_of c.args.known) c.args.depth p) under 0 c.args.count at))
          (omega arith) inner c.in_ok-push_str.ensures.bytes c.in_ok-put_shape.ensures.text c.loop-index.invariant.text;
      asked = asks_step (λ p. shape (known_of c.args.known) c.args.depth p) under c.loop-index.index c.args.count at (place_of c.deref.result.now)
          (all_constrained_of c.loop-index.made.asked.items) (all_constrained_of c.put_shape.new.made.asked.items)
          (all_constrained_of c.args.made.now.asked.items ++ list_asks under 0 (shapes_under (λ p. shape (known_of c.args.known) c.args.depth p) under 0 c.args.count at) at)
          (omega arith) inner c.in_ok-put_shape.ensures.asked c.loop-index.invariant.asked;
    }
