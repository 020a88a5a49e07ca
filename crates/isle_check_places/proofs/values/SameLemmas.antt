-- Constraints that are the same are equal.
use Rattle.std.proofs.Common.{◌≡◌, ℕ, List, [], ◌∷◌, Bool, true, false, ◌&&◌, ◌==◌, refl, ap, ◌∙◌}
use Rattle.std.specs.Ordering.{int_eq}
use Rattle.std.specs.List.{All, Contains}
use Rattle.std.specs.Bool.{beq}
use Rattle.std.specs.Cmp.{booleans_Decides}
use Rattle.std.specs.Str.{bytes_eq}
use Rattle.std.proofs.lemmas.Bool.Decides.{Decides-eqb, Decides-int_eq}
use Rattle.std.proofs.lemmas.Slice.Eq.{bytes_eq-Decides}
use Rattle.std.proofs.lemmas.List.Sums.{AllPass-from_list_all}
use Rattle.std.proofs.lemmas.Map.Views.{Contains-from_any}
use Rattle.isle_check_places.specs.Places.{StepNode, argument, field, content, part, each, extracted, computed, bool_value, int_value, constant_value, Place, ConstraintNode, of_variant, of_bool, of_int, of_constant, present, ConstrainedNode, same_constraint, same_place, same_step}
use Rattle.isle_check_places.specs.Comparing.{is_in, within}

both : (a b : Bool) → (a && b) ≡ true → (a ≡ true) × (b ≡ true)
both true b h = (refl, h)
both false b h = absurd (cc)

pub same_text : (xs ys : List ℕ) → bytes_eq xs ys ≡ true → xs ≡ ys
same_text xs ys h = (bytes_eq-Decides xs ys).0 h

same_number : (m n : ℕ) → (m == n) ≡ true → m ≡ n
same_number m n h = (Decides-eqb m n).0 h

equal_steps : (a b : StepNode) → same_step a b ≡ true → a ≡ b
equal_steps (argument i) (argument j) h = ap argument (same_number i j h)
equal_steps (field v i) (field w j) h =
    let p = both (i == j) (bytes_eq v w) h in
    ap (λ x. field x i) (same_text v w p.1) ∙ ap (field w) (same_number i j p.0)
equal_steps content content h = refl
equal_steps (part i) (part j) h = ap part (same_number i j h)
equal_steps each each h = refl
equal_steps (extracted f) (extracted g) h = ap extracted (same_text f g h)
equal_steps (computed f m) (computed g n) h =
    let p = both (m == n) (bytes_eq f g) h in
    ap (λ x. computed x m) (same_text f g p.1) ∙ ap (computed g) (same_number m n p.0)
equal_steps (bool_value a t) (bool_value b u) h =
    let p = both (beq a b) (bytes_eq t u) h in
    ap (λ x. bool_value x t) ((booleans_Decides a b).0 p.0) ∙ ap (bool_value b) (same_text t u p.1)
equal_steps (int_value a t) (int_value b u) h =
    let p = both (int_eq a b) (bytes_eq t u) h in
    ap (λ x. int_value x t) ((Decides-int_eq a b).0 p.0) ∙ ap (int_value b) (same_text t u p.1)
equal_steps (constant_value m) (constant_value n) h = ap constant_value (same_text m n h)
equal_steps _ _ h = absurd (cc)

equal_places : (p q : Place) → same_place p q ≡ true → p ≡ q
equal_places [] [] h = refl
equal_places [] (b ∷ q) h = absurd (cc)
equal_places (a ∷ p) [] h = absurd (cc)
equal_places (a ∷ p) (b ∷ q) h =
    let s = both (same_step a b) (same_place p q) h in
    ap (λ x. x ∷ p) (equal_steps a b s.0) ∙ ap (λ xs. b ∷ xs) (equal_places p q s.1)

equal_constraints : (a b : ConstraintNode) → same_constraint a b ≡ true → a ≡ b
equal_constraints (of_variant v m) (of_variant w n) h =
    let p = both (m == n) (bytes_eq v w) h in
    ap (λ x. of_variant x m) (same_text v w p.1) ∙ ap (of_variant w) (same_number m n p.0)
equal_constraints (of_bool a) (of_bool b) h = ap of_bool ((booleans_Decides a b).0 h)
equal_constraints (of_int a) (of_int b) h = ap of_int ((Decides-int_eq a b).0 h)
equal_constraints (of_constant m) (of_constant n) h = ap of_constant (same_text m n h)
equal_constraints present present h = refl
equal_constraints _ _ h = absurd (cc)

abbrev same : ConstrainedNode → ConstrainedNode → Bool
same a b = same_place a.at b.at && same_constraint a.constraint b.constraint

equal : (a b : ConstrainedNode) → same a b ≡ true → a ≡ b
equal a b h =
    let p = both (same_place a.at b.at) (same_constraint a.constraint b.constraint) h in
    λ i. record { at = equal_places a.at b.at p.0 i; constraint = equal_constraints a.constraint b.constraint p.1 i }

pub all_within : (cs asked : List ConstrainedNode) → within cs asked ≡ true → All (Contains asked) cs
all_within cs asked h =
    λ k d less. Contains-from_any {eq = same} equal _ asked (AllPass-from_list_all (λ c. is_in c asked) cs h k d less)
