-- Shapes in order, one by one.
use Rattle.std.proofs.Common.{◌≡◌, ◌≢◌, ℕ, zero, suc, ◌+◌, ◌-◌, ◌<◌, List, [], ◌∷◌, ◌++◌, codes, length, refl, sym, ap, ◌∙◌, arith, append_assoc}
use Rattle.isle_check_places.specs.Under.{UnderNode, place_under}
use Rattle.isle_check_places.specs.Places.{Place, ConstrainedNode}
use Rattle.isle_check_places.specs.values.Shapes.{ShapeNode, ShapeList, more_shapes, count_shapes, list_asks, list_text, shape_asks, shape_text}
use Rattle.isle_check_places.specs.declared.values.said.Said.{Said}
use Rattle.isle_check_places.specs.values.Values.{KnownNode, joined, said_shapes, shapes_under}
use Rattle.isle_check_places.specs.values.Views.{all_said_of}

pub counted : (f : Place → ShapeNode) (under : UnderNode) (i n : ℕ) (at : Place) → count_shapes (shapes_under f under i n at) ≡ n
counted f under i zero at = refl
counted f under i (suc n) at = omega (arith, counted f under (suc i) n at)

next_shapes : (f : Place → ShapeNode) (under : UnderNode) (i n : ℕ) (at : Place) → i < n →
    shapes_under f under i (n - i) at ≡ more_shapes (f (place_under under i at)) (shapes_under f under (i + 1) (n - (i + 1)) at)
next_shapes f under i n at less =
    let one_less : n - i ≡ suc (n - (i + 1)) = omega arith in
    let one_more : suc i ≡ i + 1 = omega arith in
    ap (λ m. shapes_under f under i m at) one_less ∙ ap (λ j. more_shapes (f (place_under under i at)) (shapes_under f under j (n - (i + 1)) at)) one_more

pub text_step : (f : Place → ShapeNode) (under : UnderNode) (i n : ℕ) (at inner : Place) (old mid new whole : List ℕ) →
    i < n → inner ≡ place_under under i at → mid ≡ old ++ codes " " → new ≡ mid ++ shape_text (f inner) →
    old ++ list_text (shapes_under f under i (n - i) at) ≡ whole → new ++ list_text (shapes_under f under (i + 1) (n - (i + 1)) at) ≡ whole
text_step f under i n at inner old mid new whole less inner_is mid_is new_is so_far =
    let rest : ShapeList = shapes_under f under (i + 1) (n - (i + 1)) at in
    let written : List ℕ = shape_text (f (place_under under i at)) in
    ap (λ t. t ++ list_text rest) (new_is ∙ (ap (λ t. t ++ shape_text (f inner)) mid_is ∙ ap (λ p. (old ++ codes " ") ++ shape_text (f p)) inner_is))
    ∙ (append_assoc (old ++ codes " ") written (list_text rest)
    ∙ (append_assoc old (codes " ") (written ++ list_text rest)
    ∙ (ap (λ ss. old ++ list_text ss) (sym (next_shapes f under i n at less)) ∙ so_far)))

pub asks_step : (f : Place → ShapeNode) (under : UnderNode) (i n : ℕ) (at inner : Place) (old new whole : List ConstrainedNode) →
    i < n → inner ≡ place_under under i at → new ≡ old ++ shape_asks (f inner) inner →
    old ++ list_asks under i (shapes_under f under i (n - i) at) at ≡ whole → new ++ list_asks under (i + 1) (shapes_under f under (i + 1) (n - (i + 1)) at) at ≡ whole
asks_step f under i n at inner old new whole less inner_is new_is so_far =
    let rest : ShapeList = shapes_under f under (i + 1) (n - (i + 1)) at in
    let one_more : i + 1 ≡ suc i = omega arith in
    ap (λ j. new ++ list_asks under j rest at) one_more
    ∙ (ap (λ a. a ++ list_asks under (suc i) rest at) (new_is ∙ ap (λ p. old ++ shape_asks (f p) p) inner_is)
    ∙ (append_assoc old (shape_asks (f (place_under under i at)) (place_under under i at)) (list_asks under (suc i) rest at)
    ∙ (ap (λ ss. old ++ list_asks under i ss at) (sym (next_shapes f under i n at less)) ∙ so_far)))

pub several_text : (k : KnownNode) (f : Place → ShapeNode) (at : Place) (ss : List Said) → length ss ≢ 0 → length ss ≢ 1 →
    shape_text (joined (said_shapes k f at (all_said_of ss))) ≡ codes "(and" ++ (list_text (said_shapes k f at (all_said_of ss)) ++ codes ")")
several_text k f at [] some more = absurd (some refl)
several_text k f at (s ∷ []) some more = absurd (more refl)
several_text k f at (s ∷ (next ∷ ss)) some more = refl
