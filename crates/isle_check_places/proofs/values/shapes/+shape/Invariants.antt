use Rattle.std.proofs.Common.{◌≡◌, ◌+◌, ◌*◌, ◌-◌, ◌++◌, drop, string_bytes}
use Rattle.isle_check_places.specs.Under.{same}
use Rattle.isle_check_places.specs.UnderView.{under_of}
use Rattle.isle_check_places.specs.Views.{all_constrained_of, place_of}
use Rattle.isle_check_places.specs.values.Shapes.{list_asks, list_text}
use Rattle.isle_check_places.specs.values.Values.{said_shapes, shape, shapes_under}
use Rattle.isle_check_places.specs.values.Views.{all_said_of, known_of}
use Rattle.isle_check_places.proofs.values.shapes.+shape.Given as goal

abbrev pub decreases-put_shape : goal.decreases-put_shape
decreases-put_shape l = 7 * l.depth

abbrev pub decreases-put_under : goal.decreases-put_under
decreases-put_under l = 7 * l.depth + 1

abbrev pub decreases-put_term : goal.decreases-put_term
decreases-put_term l = 7 * l.depth + 2

abbrev pub decreases-put_extractor : goal.decreases-put_extractor
decreases-put_extractor l = 7 * l.depth + 3

abbrev pub decreases-put_said : goal.decreases-put_said
decreases-put_said l = 7 * l.depth + 4

abbrev pub decreases-put_each : goal.decreases-put_each
decreases-put_each l = 7 * l.depth + 5

abbrev pub decreases-put_joined : goal.decreases-put_joined
decreases-put_joined l = 7 * l.depth + 6

abbrev pub invariant-put_each-loop-one : goal.invariant-put_each-loop-one
invariant-put_each-loop-one l =
    record {
      text :
          string_bytes l.made.text
          ++ list_text (said_shapes (known_of l.known) (λ p. shape (known_of l.known) l.depth p) (place_of l.at) (all_said_of (drop l.one-index l.said)))
          ≡ string_bytes l.fn.made.text
          ++ list_text (said_shapes (known_of l.known) (λ p. shape (known_of l.known) l.depth p) (place_of l.at) (all_said_of l.said));
      asked :
          all_constrained_of l.made.asked.items
          ++ list_asks same l.one-index (said_shapes (known_of l.known) (λ p. shape (known_of l.known) l.depth p) (place_of l.at) (all_said_of (drop l.one-index l.said))) (place_of l.at)
          ≡ all_constrained_of l.fn.made.asked.items
          ++ list_asks same 0 (said_shapes (known_of l.known) (λ p. shape (known_of l.known) l.depth p) (place_of l.at) (all_said_of l.said)) (place_of l.at);
    }

abbrev pub invariant-put_under-loop-index : goal.invariant-put_under-loop-index
invariant-put_under-loop-index l =
    record {
      text :
          string_bytes l.made.text
          ++ list_text (shapes_under (λ p. shape (known_of l.known) l.depth p) (under_of l.under) l.index (l.count - l.index) (place_of l.at))
          ≡ string_bytes l.fn.made.text
          ++ list_text (shapes_under (λ p. shape (known_of l.known) l.depth p) (under_of l.under) 0 l.count (place_of l.at));
      asked :
          all_constrained_of l.made.asked.items
          ++ list_asks (under_of l.under) l.index (shapes_under (λ p. shape (known_of l.known) l.depth p) (under_of l.under) l.index (l.count - l.index) (place_of l.at)) (place_of l.at)
          ≡ all_constrained_of l.fn.made.asked.items
          ++ list_asks (under_of l.under) 0 (shapes_under (λ p. shape (known_of l.known) l.depth p) (under_of l.under) 0 l.count (place_of l.at)) (place_of l.at);
    }
