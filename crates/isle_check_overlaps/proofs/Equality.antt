-- Places and constraints are the same exactly if they are equal.
use Rattle.std.proofs.Common.{◌≡◌, ℕ, ℤ, List, [], ◌∷◌, Bool, true, false, ◌&&◌, ◌==◌, refl, ap, ap₂, bytes_eq}
use Rattle.std.proofs.lemmas.Bool.Decides.{Decides-eqb, Decides-int_eq}
use Rattle.std.proofs.lemmas.Slice.Eq.{bytes_eq-Decides}
use Rattle.std.specs.Prelude.{Decides}
use Rattle.std.specs.Bool.{beq}
use Rattle.std.specs.Ordering.{int_eq}
use Rattle.isle_check_places.specs.Places.{StepNode, argument, field, content, part, each, extracted, computed, bool_value, int_value, constant_value, Place, ConstraintNode, of_variant, of_bool, of_int, of_constant, present, same_step, same_place, same_constraint}
use Rattle.isle_check_overlaps.proofs.Booleans.{and_first, and_second, and_true}

both : (a b : Bool) → (a && b) ≡ true → (a ≡ true) × (b ≡ true)
both a b h = (and_first a b h, and_second a b h)

same_number : (i j : ℕ) → (i == j) ≡ true → i ≡ j
same_number i j h = (Decides-eqb i j).0 h

equal_number : (i : ℕ) → (i == i) ≡ true
equal_number i = (Decides-eqb i i).1 refl

same_text : (a b : List ℕ) → bytes_eq a b ≡ true → a ≡ b
same_text a b h = (bytes_eq-Decides a b).0 h

pub equal_text : (a : List ℕ) → bytes_eq a a ≡ true
equal_text a = (bytes_eq-Decides a a).1 refl

same_int : (a b : ℤ) → int_eq a b ≡ true → a ≡ b
same_int a b h = (Decides-int_eq a b).0 h

equal_int : (a : ℤ) → int_eq a a ≡ true
equal_int a = (Decides-int_eq a a).1 refl

same_bool : (a b : Bool) → beq a b ≡ true → a ≡ b
same_bool true true h = refl
same_bool false false h = refl
same_bool true false h = cc
same_bool false true h = cc

equal_bool : (a : Bool) → beq a a ≡ true
equal_bool true = refl
equal_bool false = refl

pub constraint_is : (a b : ConstraintNode) → same_constraint a b ≡ true → a ≡ b
constraint_is (of_variant v m) (of_variant w n) h =
    let p = both (m == n) (bytes_eq v w) h in ap₂ of_variant (same_text v w p.1) (same_number m n p.0)
constraint_is (of_bool a) (of_bool b) h = ap of_bool (same_bool a b h)
constraint_is (of_int a) (of_int b) h = ap of_int (same_int a b h)
constraint_is (of_constant m) (of_constant n) h = ap of_constant (same_text m n h)
constraint_is present present h = refl
constraint_is _ _ h = cc

pub constraint_same : (a : ConstraintNode) → same_constraint a a ≡ true
constraint_same (of_variant v m) = and_true (m == m) (bytes_eq v v) (equal_number m) (equal_text v)
constraint_same (of_bool a) = equal_bool a
constraint_same (of_int a) = equal_int a
constraint_same (of_constant m) = equal_text m
constraint_same present = refl

step_is : (a b : StepNode) → same_step a b ≡ true → a ≡ b
step_is (argument i) (argument j) h = ap argument (same_number i j h)
step_is (field v i) (field w j) h = let p = both (i == j) (bytes_eq v w) h in ap₂ field (same_text v w p.1) (same_number i j p.0)
step_is content content h = refl
step_is (part i) (part j) h = ap part (same_number i j h)
step_is each each h = refl
step_is (extracted f) (extracted g) h = ap extracted (same_text f g h)
step_is (computed f m) (computed g n) h = let p = both (m == n) (bytes_eq f g) h in ap₂ computed (same_text f g p.1) (same_number m n p.0)
step_is (bool_value a t) (bool_value b u) h = let p = both (beq a b) (bytes_eq t u) h in ap₂ bool_value (same_bool a b p.0) (same_text t u p.1)
step_is (int_value a t) (int_value b u) h = let p = both (int_eq a b) (bytes_eq t u) h in ap₂ int_value (same_int a b p.0) (same_text t u p.1)
step_is (constant_value m) (constant_value n) h = ap constant_value (same_text m n h)
step_is _ _ h = cc

step_same : (a : StepNode) → same_step a a ≡ true
step_same (argument i) = equal_number i
step_same (field v i) = and_true (i == i) (bytes_eq v v) (equal_number i) (equal_text v)
step_same content = refl
step_same (part i) = equal_number i
step_same each = refl
step_same (extracted f) = equal_text f
step_same (computed f n) = and_true (n == n) (bytes_eq f f) (equal_number n) (equal_text f)
step_same (bool_value a t) = and_true (beq a a) (bytes_eq t t) (equal_bool a) (equal_text t)
step_same (int_value a t) = and_true (int_eq a a) (bytes_eq t t) (equal_int a) (equal_text t)
step_same (constant_value m) = equal_text m

pub place_is : (p q : Place) → same_place p q ≡ true → p ≡ q
place_is [] [] h = refl
place_is (a ∷ p) (b ∷ q) h = let s = both (same_step a b) (same_place p q) h in ap₂ (◌∷◌) (step_is a b s.0) (place_is p q s.1)
place_is _ _ h = cc

pub place_same : (p : Place) → same_place p p ≡ true
place_same [] = refl
place_same (a ∷ p) = and_true (same_step a a) (same_place p p) (step_same a) (place_same p)

pub place_decides : (p q : Place) → Decides (same_place p q) (p ≡ q)
place_decides p q = (place_is p q, λ e. rw (← e) (place_same p))

pub constraint_decides : (a b : ConstraintNode) → Decides (same_constraint a b) (a ≡ b)
constraint_decides a b = (constraint_is a b, λ e. rw (← e) (constraint_same a))
