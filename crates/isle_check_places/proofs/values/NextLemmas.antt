-- The step of a place behind those of another one, by how many these are.
use Rattle.std.proofs.Common.{◌≡◌, ◌<◌, ◌≤◌, List, [], ◌∷◌, Bool, true, false, ◌&&◌, Option, None, Some, length, take, get_or, refl, sym, arith, if◌then◌else◌}
use Rattle.std.proofs.lemmas.List.{length-map}
use Rattle.isle_check_places.specs.declared.places.Step.{Step}
use Rattle.isle_check_places.specs.Places.{StepNode, Place, same_place, same_step}
use Rattle.isle_check_places.specs.Views.{place_of, step_of}
use Rattle.isle_check_places.specs.values.Next.{next_step}

none_in_both : (b : Bool) (o : Option StepNode) → o ≡ None → (if b then o else None) ≡ None
none_in_both true o none = none
none_in_both false o none = refl

pub no_next : (at place : Place) → length place ≤ length at → next_step at place ≡ None
no_next [] [] short = refl
no_next [] (s ∷ place) short = absurd (omega (arith, short))
no_next (a ∷ at) [] short = refl
no_next (a ∷ at) (s ∷ place) short = none_in_both (same_step a s) (next_step at place) (no_next at place (omega (arith, short)))

none_after : (b r : Bool) (o : Option StepNode) → (b && r) ≡ false → (r ≡ false → None ≡ o) → None ≡ (if b then o else None)
none_after true r o h none = none h
none_after false r o h none = refl

some_after : (b r : Bool) (p o : Option StepNode) → (b && r) ≡ true → (r ≡ true → p ≡ o) → p ≡ (if b then o else None)
some_after true r p o h some = some h
some_after false r p o h some = absurd (cc)

pub is_short : (at place : List Step) → length place ≤ length at → None ≡ next_step (place_of at) (place_of place)
is_short at place short = sym (no_next (place_of at) (place_of place) (omega (arith, short, length-map at step_of, length-map place step_of)))

pub is_other : (at place : List Step) → same_place (place_of at) (place_of (take (length at) place)) ≡ false → None ≡ next_step (place_of at) (place_of place)
is_other [] place other = absurd (cc)
is_other (a ∷ at) [] other = refl
is_other (a ∷ at) (s ∷ place) other =
    none_after (same_step (step_of a) (step_of s)) (same_place (place_of at) (place_of (take (length at) place))) (next_step (place_of at) (place_of place)) other
    (is_other at place)

pub is_next : (at place : List Step) (d : Step) → length at < length place → same_place (place_of at) (place_of (take (length at) place)) ≡ true →
    Some (step_of (get_or place (length at) d)) ≡ next_step (place_of at) (place_of place)
is_next [] [] d less begins = absurd (omega (arith, less))
is_next [] (s ∷ place) d less begins = refl
is_next (a ∷ at) [] d less begins = absurd (omega (arith, less))
is_next (a ∷ at) (s ∷ place) d less begins =
    some_after (same_step (step_of a) (step_of s)) (same_place (place_of at) (place_of (take (length at) place))) (Some (step_of (get_or place (length at) d)))
    (next_step (place_of at) (place_of place)) begins (is_next at place d (omega (arith, less)))
