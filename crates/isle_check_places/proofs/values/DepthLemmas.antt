-- Nothing is said of values at places that are longer than all that are constrained.
use Rattle.std.proofs.Common.{◌≡◌, ℕ, zero, suc, ◌+◌, ◌<◌, ◌≤◌, List, [], ◌∷◌, ◌++◌, Bool, true, false, ◌&&◌, ◌==◌, None, Some, length, map, refl, sym, ap, ◌∙◌, arith, length-append, if◌then◌else◌}
use Rattle.isle_check_places.specs.Under.{UnderNode, same, arguments, fields, parts, place_under, parts_of}
use Rattle.isle_check_places.specs.Places.{StepNode, argument, field, content, part, each, extracted, Place, ConstrainedNode, same_place, same_step, step_on}
use Rattle.isle_check_places.specs.Settling.{constraint_at}
use Rattle.isle_check_places.specs.values.Said.{SaidNode, said_variant, said_bool, said_int, said_constant, said_extractor, distinct, extractor_by, extractors_from, said_at, said_by}
use Rattle.isle_check_places.specs.values.Shapes.{AnswerNode, may_fail, has_several, is_there, ShapeNode, anything, variant_shape, extractor_shape, more_shapes, answer_place}
use Rattle.isle_check_places.specs.values.Values.{KnownNode, answer_at, argument_count, argument_shapes, joined, longest, said_shape, said_shapes, shape, shapes_under}
use Rattle.isle_check_places.proofs.values.NextLemmas.{no_next}

false_first : (a b : Bool) → b ≡ false → (a && b) ≡ false
false_first true b h = h
false_first false b h = refl

shorter : (p q : Place) → length p < length q → same_place p q ≡ false
shorter [] [] less = absurd (omega (arith, less))
shorter [] (b ∷ q) less = refl
shorter (a ∷ p) [] less = refl
shorter (a ∷ p) (b ∷ q) less = false_first (same_step a b) (same_place p q) (shorter p q (omega (arith, less)))

no_constraint : (cs : List ConstrainedNode) (at : Place) → longest cs < length at → constraint_at cs at ≡ None
no_constraint [] at less = refl
no_constraint (c ∷ cs) at less =
    ap (λ b. if b then Some c.constraint else constraint_at cs at) (shorter c.at at (omega (arith, less))) ∙ no_constraint cs at (omega (arith, less))

no_extractors : (cs : List ConstrainedNode) (at : Place) → longest cs < length at → extractors_from cs at ≡ []
no_extractors [] at less = refl
no_extractors (c ∷ cs) at less =
    ap (λ o. extractor_by o ++ extractors_from cs at) (no_next at c.at (omega (arith, less))) ∙ no_extractors cs at (omega (arith, less))

nothing_said : (cs : List ConstrainedNode) (at : Place) → longest cs < length at → said_at cs at ≡ []
nothing_said cs at less =
    ap (λ c. said_by c ++ map said_extractor (distinct (extractors_from cs at))) (no_constraint cs at less)
    ∙ ap (λ ts. map said_extractor (distinct ts)) (no_extractors cs at less)

nothing_shown : (k : KnownNode) (n : ℕ) (at : Place) → longest k.constraints < length at → shape k (suc n) at ≡ anything
nothing_shown k n at less = ap (λ ss. joined (said_shapes k (λ p. shape k n p) at ss)) (nothing_said k.constraints at less)

under_same : (f g : Place → ShapeNode) (under : UnderNode) (i n : ℕ) (at : Place) → ((j : ℕ) → f (place_under under j at) ≡ g (place_under under j at)) →
    shapes_under f under i n at ≡ shapes_under g under i n at
under_same f g under i zero at agree = refl
under_same f g under i (suc n) at agree =
    ap (λ s. more_shapes s (shapes_under f under (suc i) n at)) (agree i)
    ∙ ap (λ ss. more_shapes (g (place_under under i at)) ss) (under_same f g under (suc i) n at agree)

step_longer : (at : Place) (s : StepNode) → length at < length (step_on at s)
step_longer at s = omega (arith, length-append at (s ∷ []))

answer_longer : (answer : AnswerNode) (at : Place) → length at ≤ length (answer_place answer at)
answer_longer may_fail at = omega (arith, step_longer at content)
answer_longer has_several at = omega (arith, step_longer at each)
answer_longer is_there at = omega arith

parts_longer : (alone : Bool) (i : ℕ) (at : Place) → length at ≤ length (place_under (if alone then same else parts) i at)
parts_longer true i at = omega arith
parts_longer false i at = omega (arith, step_longer at (part i))

said_same : (k : KnownNode) (f g : Place → ShapeNode) (at : Place) → ((p : Place) → length at < length p → f p ≡ g p) → (s : SaidNode) →
    said_shape k f at s ≡ said_shape k g at s
said_same k f g at agree (said_variant v n) =
    ap (variant_shape v) (under_same f g (fields v) 0 n at (λ i. agree (step_on at (field v i)) (step_longer at (field v i))))
said_same k f g at agree (said_bool b) = refl
said_same k f g at agree (said_int i) = refl
said_same k f g at agree (said_constant name) = refl
said_same k f g at agree (said_extractor h) =
    let count : ℕ = argument_count k h in
    let stepped : Place = step_on at (extracted h) in
    let answer : AnswerNode = answer_at k.constraints stepped in
    let inner : Place = answer_place answer stepped in
    ap (extractor_shape h answer) (under_same f g (parts_of count) 0 count inner
    (λ i. agree (place_under (parts_of count) i inner)
    (omega (arith, step_longer at (extracted h), answer_longer answer stepped, parts_longer (count == 1) i inner))))

all_same : (k : KnownNode) (f g : Place → ShapeNode) (at : Place) → ((p : Place) → length at < length p → f p ≡ g p) → (ss : List SaidNode) →
    said_shapes k f at ss ≡ said_shapes k g at ss
all_same k f g at agree [] = refl
all_same k f g at agree (s ∷ ss) =
    ap (λ x. more_shapes x (said_shapes k f at ss)) (said_same k f g at agree s)
    ∙ ap (λ xs. more_shapes (said_shape k g at s) xs) (all_same k f g at agree ss)

depth_same : (k : KnownNode) (d e : ℕ) (at : Place) → longest k.constraints < length at + d → longest k.constraints < length at + e → shape k d at ≡ shape k e at
depth_same k zero zero at first second = refl
depth_same k zero (suc e) at first second = sym (nothing_shown k e at (omega (arith, first)))
depth_same k (suc d) zero at first second = nothing_shown k d at (omega (arith, second))
depth_same k (suc d) (suc e) at first second =
    ap joined (all_same k (λ p. shape k d p) (λ p. shape k e p) at
    (λ p longer. depth_same k d e p (omega (arith, first, longer)) (omega (arith, second, longer))) (said_at k.constraints at))

pub deeper : (k : KnownNode) (depth : ℕ) (term : List ℕ) → longest k.constraints ≤ depth → argument_shapes k depth term ≡ argument_shapes k (longest k.constraints) term
deeper k depth term enough =
    under_same (λ p. shape k depth p) (λ p. shape k (longest k.constraints) p) arguments 0 (argument_count k term) []
    (λ i. depth_same k depth (longest k.constraints) (argument i ∷ []) (omega (arith, enough)) (omega arith))
