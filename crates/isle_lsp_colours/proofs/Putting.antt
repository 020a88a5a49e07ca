-- A name gets its class, unless there is one at its place.
use Rattle.std.proofs.Common.{◌≡◌, ◌==◌, ◌<◌, ◌≤◌, ℕ, zero, suc, List, [], ◌∷◌, false, true, Option, None, Some, ap, get_or, is_some, length, option_map, refl, slice_get, slice_set, sym, ◌∙◌, inl, inr, if◌then◌else◌, arith, subst}
use Rattle.std.proofs.lemmas.Bool.{cases_Bool, eqb-false, eqb-true}
use Rattle.std.proofs.lemmas.Option.{slice_get-get_or, slice_get_past}
use Rattle.isle_lsp_colours.specs.Classes.{first}
use Rattle.isle_lsp_colours.specs.declared.classes.Class.{Class}
use Rattle.isle_lsp_colours.proofs.Firsts.{none-merged}

set_other : {A : Type 0} (cs : List A) (i j : ℕ) (v : A) → (i ≡ j → ⊥) → slice_get (slice_set cs i v) j ≡ slice_get cs j
set_other [] i j v apart = refl
set_other (x ∷ cs) zero zero v apart = absurd (apart refl)
set_other (x ∷ cs) zero (suc j) v apart = refl
set_other (x ∷ cs) (suc i) zero v apart = refl
set_other (x ∷ cs) (suc i) (suc j) v apart = set_other cs i j v (λ e. apart (ap suc e))

set_here : {A : Type 0} (cs : List A) (i : ℕ) (v : A) → i < length cs → slice_get (slice_set cs i v) i ≡ Some v
set_here [] i v h = absurd (omega (arith, h))
set_here (x ∷ cs) zero v h = refl
set_here (x ∷ cs) (suc i) v h = set_here cs i v (omega (arith, h))

bare : (o : Option Class) → is_some o ≡ false → o ≡ None
bare None h = refl
bare (Some c) h = absurd (cc h)

kept : (o : Option Class) (f : Option Class) → is_some o ≡ true → o ≡ first o f
kept None f h = absurd (cc h)
kept (Some c) f h = refl

equal : (i j : ℕ) → (i == j) ≡ true → i ≡ j
equal i j t = eqb-true i j t

other : (i j : ℕ) → (i == j) ≡ false → i ≡ j → ⊥
other i j t e = eqb-false i j t e

abbrev Merged : List (Option Class) → List (Option Class) → ℕ → Class → ℕ → Type 0
Merged old new i v offset = slice_get new offset ≡ option_map (λ c. first c (if i == offset then Some v else None)) (slice_get old offset)

pub put-there : (cs : List (Option Class)) (i : ℕ) (v : Class) (offset : ℕ) → i < length cs → is_some (get_or cs i None) ≡ false → Merged cs (slice_set cs i (Some v)) i v offset
put-there cs i v offset h none = elim (cases_Bool (i == offset)) [
  | inl t ↦
      let same = equal i offset t in
      let was : slice_get cs i ≡ Some None = slice_get-get_or cs i None h ∙ ap Some (bare (get_or cs i None) none) in
      rw t (subst (λ n. slice_get (slice_set cs i (Some v)) n ≡ option_map (λ c. first c (Some v)) (slice_get cs n)) same
      (set_here cs i (Some v) h ∙ sym (ap (option_map (λ c. first c (Some v))) was)))
  | inr t ↦ rw t (set_other cs i offset (Some v) (other i offset t) ∙ none-merged (slice_get cs offset))
]

pub put-not : (cs : List (Option Class)) (i : ℕ) (v : Class) (offset : ℕ) → slice_get cs i ≡ option_map (λ c. first c (Some v)) (slice_get cs i) → Merged cs cs i v offset
put-not cs i v offset stays = elim (cases_Bool (i == offset)) [
  | inl t ↦ rw t (subst (λ n. slice_get cs n ≡ option_map (λ c. first c (Some v)) (slice_get cs n)) (equal i offset t) stays)
  | inr t ↦ rw t (none-merged (slice_get cs offset))
]

pub put-over : (cs : List (Option Class)) (i : ℕ) (v : Class) (offset : ℕ) → i < length cs → is_some (get_or cs i None) ≡ true → Merged cs cs i v offset
put-over cs i v offset h some =
    let was = slice_get-get_or cs i None h in
    put-not cs i v offset (was ∙ ap Some (kept (get_or cs i None) (Some v) some) ∙ sym (ap (option_map (λ c. first c (Some v))) was))

pub put-past : (cs : List (Option Class)) (i : ℕ) (v : Class) (offset : ℕ) → length cs ≤ i → Merged cs cs i v offset
put-past cs i v offset h =
    let was = slice_get_past cs i h in
    put-not cs i v offset (was ∙ sym (ap (option_map (λ c. first c (Some v))) was))
