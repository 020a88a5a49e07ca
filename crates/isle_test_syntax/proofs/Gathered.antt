-- What is gathered of terms, one more of them at a time.
use Rattle.std.proofs.Common.{◌≡◌, ◌∙◌, List, [], ◌∷◌, ◌++◌, Bool, true, false, ◌||◌, Option, None, Some, MutBor, refl, sym, ap}
use Rattle.std.proofs.lemmas.Fn.{chained_keeps}
use Rattle.std.proofs.lemmas.List.Folds.{list_any-append}
use Rattle.std.specs.List.{FoldsTo, list_any}
use Rattle.isle_base_source.specs.declared.pos.Pos.{Pos}
use Rattle.isle_ast_names.specs.Tree.{Name}
use Rattle.isle_test_syntax.specs.Walks.{last_pos}

last_push : (heads : List (Pos × Name)) (head : Pos × Name) → last_pos (heads ++ (head ∷ [])) ≡ Some head.0
last_push [] head = refl
last_push (_ ∷ []) head = refl
last_push (_ ∷ next ∷ others) head = last_push (next ∷ others) head

-- A closure that writes each position behind its reference keeps the reference, and leaves the last position there.
pub last_left : {F : Type 0} (last : F → MutBor (Option Pos)) (Call : F → Pos × Name → F → Type 0) →
    ((f : F) (head : Pos × Name) (g : F) → Call f head g → ((last g).ghost_name ≡ (last f).ghost_name) × ((last g).now ≡ Some head.0)) →
    (f : F) (heads : List (Pos × Name)) (g : F) → (last f).now ≡ None → FoldsTo Call f heads g →
    ((last f).ghost_name ≡ (last g).ghost_name) × ((last g).now ≡ last_pos heads)
last_left last Call step f heads g none ran =
    chained_keeps Call (λ seen q. ((last f).ghost_name ≡ (last q).ghost_name) × ((last q).now ≡ last_pos seen))
    (λ seen q head v j k. let s = step q head v k in (j.0 ∙ sym s.0, s.1 ∙ sym (last_push seen head)))
    heads f g (refl, none) ran

or_false : (b : Bool) → (b || false) ≡ b
or_false true = refl
or_false false = refl

any_push : (test : Pos × Name → Bool) (heads : List (Pos × Name)) (head : Pos × Name) →
    list_any test (heads ++ (head ∷ [])) ≡ (list_any test heads || test head)
any_push test heads head = list_any-append test heads (head ∷ []) ∙ ap (λ b. list_any test heads || b) (or_false (test head))

-- A closure that adds the answer of a test to the Boolean behind its reference keeps the reference, and leaves there
-- whether any passes.
pub any_left : {F X : Type 0} (found : F → MutBor Bool) (wanted : F → X) (test : X → Pos × Name → Bool) (Call : F → Pos × Name → F → Type 0) →
    ((f : F) (head : Pos × Name) (g : F) → Call f head g →
    ((found g).ghost_name ≡ (found f).ghost_name) × (wanted g ≡ wanted f) × ((found g).now ≡ ((found f).now || test (wanted f) head))) →
    (f : F) (heads : List (Pos × Name)) (g : F) → (found f).now ≡ false → FoldsTo Call f heads g →
    ((found f).ghost_name ≡ (found g).ghost_name) × ((found g).now ≡ list_any (test (wanted f)) heads)
any_left found wanted test Call step f heads g none ran =
    let left = chained_keeps Call
    (λ seen q. ((found f).ghost_name ≡ (found q).ghost_name) × (wanted q ≡ wanted f) × ((found q).now ≡ list_any (test (wanted f)) seen))
    (λ seen q head v j k. let s = step q head v k in (
      j.0 ∙ sym s.0,
      s.1 ∙ j.1,
      s.2 ∙ (λ i. j.2 i || test (j.1 i) head) ∙ sym (any_push (test (wanted f)) seen head),
    )) heads f g (refl, refl, none) ran in
    (left.0, left.2)
