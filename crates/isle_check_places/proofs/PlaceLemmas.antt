-- Places are the same if their last steps are, and what is before these.
use Rattle.std.proofs.Common.{◌≡◌, ◌≢◌, suc, List, [], ◌∷◌, ◌++◌, Bool, true, false, ◌&&◌, length, refl, sym, ap, ◌∙◌, arith}
use Rattle.std.proofs.Math.Bool.{and-false}
use Rattle.std.proofs.lemmas.List.{map-append}
use Rattle.isle_check_places.specs.declared.places.Step.{Step}
use Rattle.isle_check_places.specs.Places.{StepNode, Place, same_place, same_step}
use Rattle.isle_check_places.specs.Views.{place_of, step_of}

none_before : (ys : Place) (y : StepNode) → same_place [] (ys ++ y ∷ []) ≡ false
none_before [] y = refl
none_before (b ∷ ys) y = refl

none_behind : (xs : Place) (x : StepNode) → same_place (xs ++ x ∷ []) [] ≡ false
none_behind [] x = refl
none_behind (a ∷ xs) x = refl

and_swapped : (p q r : Bool) → (p && (q && r)) ≡ (q && (p && r))
and_swapped true q r = refl
and_swapped false true r = refl
and_swapped false false r = refl

same_ends : (xs ys : Place) (x y : StepNode) → same_place (xs ++ x ∷ []) (ys ++ y ∷ []) ≡ (same_step x y && same_place xs ys)
same_ends [] [] x y = refl
same_ends [] (b ∷ ys) x y = ap (λ r. same_step x b && r) (none_before ys y) ∙ (and-false (same_step x b) ∙ sym (and-false (same_step x y)))
same_ends (a ∷ xs) [] x y = ap (λ r. same_step a y && r) (none_behind xs x) ∙ (and-false (same_step a y) ∙ sym (and-false (same_step x y)))
same_ends (a ∷ xs) (b ∷ ys) x y =
    ap (λ r. same_step a b && r) (same_ends xs ys x y) ∙ and_swapped (same_step a b) (same_step x y) (same_place xs ys)

pub same_by_ends : (left right xs ys : List Step) (x y : Step) → left ≡ xs ++ x ∷ [] → right ≡ ys ++ y ∷ [] →
    same_place (place_of left) (place_of right) ≡ (same_step (step_of x) (step_of y) && same_place (place_of xs) (place_of ys))
same_by_ends left right xs ys x y is_left is_right =
    ap (λ s. same_place (place_of s) (place_of right)) is_left
    ∙ (ap (λ s. same_place (place_of (xs ++ x ∷ [])) (place_of s)) is_right
    ∙ (ap (λ p. same_place p (place_of (ys ++ y ∷ []))) (map-append step_of xs (x ∷ []))
    ∙ (ap (λ p. same_place (place_of xs ++ step_of x ∷ []) p) (map-append step_of ys (y ∷ []))
    ∙ same_ends (place_of xs) (place_of ys) (step_of x) (step_of y))))

pub none_is_other : (left right xs : List Step) (x : Step) → left ≡ xs ++ x ∷ [] → length right ≡ 0 → false ≡ same_place (place_of left) (place_of right)
none_is_other left [] xs x is_left none =
    sym (ap (λ s. same_place (place_of s) []) is_left ∙ (ap (λ p. same_place p []) (map-append step_of xs (x ∷ [])) ∙ none_behind (place_of xs) (step_of x)))
none_is_other left (s ∷ right) xs x is_left none = absurd (omega (arith, none))

pub other_lengths : (left right : List Step) → length left ≢ length right → same_place (place_of left) (place_of right) ≡ false
other_lengths [] [] other = absurd (other refl)
other_lengths [] (s ∷ right) other = refl
other_lengths (s ∷ left) [] other = refl
other_lengths (s ∷ left) (t ∷ right) other =
    ap (λ r. same_step (step_of s) (step_of t) && r) (other_lengths left right (λ e. other (ap suc e))) ∙ and-false (same_step (step_of s) (step_of t))
