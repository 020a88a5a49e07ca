-- Errors are added one after another, and what holds of each is kept.
use Rattle.std.proofs.Common.{◌≡◌, ◌≢◌, ℕ, zero, suc, ◌+◌, List, [], ◌∷◌, map, take, drop, Bool, true, false, not, ◌&&◌, ◌||◌, ◌==◌, Option, None, Some, IfSome, option_map, Contains, refl, ap, subst, bytes_eq, arith, if◌then◌else◌}
use Rattle.std.specs.List.{All}
use Rattle.std.proofs.lemmas.List.Elements.{All-push, Contains-append_cases, Contains-push_cases}
use Rattle.isle_base_source.specs.declared.pos.Pos.{Pos}
use Rattle.isle_check_typing.specs.Faults.{FaultNode, KindNode}
use Rattle.isle_check_environment.specs.signatures.Entries.{or_else}
use Rattle.isle_check_typing.specs.Progress.{FoundNode, ProgressNode, VariableNode, bind, find, find_from, hidden, hide_since, tell, unless}
use Rattle.isle_check_typing.specs.Typings.{and_then}
use Rattle.isle_check_laws.proofs.Lists.{both_true, either, first_or_later, from_map, here, later, no_element}
use Rattle.isle_check_laws.proofs.Names.{same_text}

-- V holds of the name and the type of each variable
abbrev pub AreBound : (List ℕ → List ℕ → Type 0) → List VariableNode → Type 0
AreBound V vs = (v : VariableNode) → Contains vs v → V v.name v.ty

-- P holds of each error, and V of each variable
abbrev pub IsGood : (FaultNode → Type 0) → (List ℕ → List ℕ → Type 0) → ProgressNode → Type 0
IsGood P V s = All P s.faults × AreBound V s.bound

module _ (P : FaultNode → Type 0) (V : List ℕ → List ℕ → Type 0) where
  pub told : (kind : KindNode) (place : Pos) (s : ProgressNode) → P (record { kind = kind; pos = place }) → IsGood P V s → IsGood P V (tell kind place s)
  told kind place s new good = (All-push P s.faults (record { kind = kind; pos = place }) good.0 new, good.1)

  pub unless_told : (b : Bool) (kind : KindNode) (place : Pos) (s : ProgressNode) → (b ≡ false → P (record { kind = kind; pos = place })) → IsGood P V s →
      IsGood P V (unless b kind place s)
  unless_told true kind place s new good = good
  unless_told false kind place s new good = told kind place s (new refl) good

  pub binds : (name ty : List ℕ) (s : ProgressNode) → V name ty → IsGood P V s → IsGood P V (bind name ty s)
  binds name ty s new good =
      let last : VariableNode = record { name = name; ty = ty; is_visible = true } in
      (good.0, λ v among. either (good.1 v) (λ same. subst (λ (x : VariableNode). V x.name x.ty) same new) (Contains-push_cases s.bound last v among))

  from_take : (n : ℕ) (vs : List VariableNode) (v : VariableNode) → Contains (take n vs) v → Contains vs v
  from_take zero vs v among = absurd (no_element v among)
  from_take (suc n) [] v among = among
  from_take (suc n) (w ∷ vs) v among =
      either (λ same. subst (λ x. Contains (w ∷ vs) x) same (here w vs)) (λ more. later w vs v (from_take n vs v more)) (first_or_later w (take n vs) v among)

  from_drop : (n : ℕ) (vs : List VariableNode) (v : VariableNode) → Contains (drop n vs) v → Contains vs v
  from_drop zero vs v among = among
  from_drop (suc n) [] v among = among
  from_drop (suc n) (w ∷ vs) v among = later w vs v (from_drop n vs v among)

  pub hides : (count : ℕ) (s : ProgressNode) → IsGood P V s → IsGood P V (hide_since count s)
  hides count s good = (
    good.0,
    λ v among.
        either (λ old. good.1 v (from_take count s.bound v old))
        (λ new. let at = from_map hidden (drop count s.bound) v new in
        subst (λ (x : VariableNode). V x.name x.ty) at.2 (good.1 at.0 (from_drop count s.bound at.0 at.1)))
        (Contains-append_cases (take count s.bound) (map hidden (drop count s.bound)) v among),
  )

-- a variable that is found

same_found : (x y : FoundNode) → ◌≡◌ {A = Option FoundNode} (Some x) (Some y) → x ≡ y
same_found x y e = cc

module _ (V : List ℕ → List ℕ → Type 0) (name : List ℕ) (known : FoundNode) where
  found_first : (v : VariableNode) (i : ℕ) → V v.name v.ty → (b : Bool) → (v.is_visible && bytes_eq v.name name) ≡ b →
      (if b then Some (record { number = i; ty = v.ty }) else None) ≡ Some known → V name known.ty
  found_first v i has true is h =
      let both = both_true v.is_visible (bytes_eq v.name name) is in
      let same = same_found (record { number = i; ty = v.ty }) known h in
      subst (λ ty. V name ty) (ap (λ (x : FoundNode). x.ty) same) (subst (λ n. V n v.ty) (same_text v.name name both.1) has)
  found_first v i has false is h = cc

  found_by : (v : VariableNode) (i : ℕ) → V v.name v.ty → (o : Option FoundNode) → (o ≡ Some known → V name known.ty) →
      or_else o (if v.is_visible && bytes_eq v.name name then Some (record { number = i; ty = v.ty }) else None) ≡ Some known → V name known.ty
  found_by v i has None more h = found_first v i has (v.is_visible && bytes_eq v.name name) refl h
  found_by v i has (Some x) more h = more h

  found_from : (vs : List VariableNode) (i : ℕ) → AreBound V vs → find_from i vs name ≡ Some known → V name known.ty
  found_from [] i are h = cc
  found_from (v ∷ vs) i are h =
      found_by v i (are v (here v vs)) (find_from (i + 1) vs name) (found_from vs (i + 1) (λ w among. are w (later v vs w among))) h

-- V holds of its name and its type
pub found_variable : (V : List ℕ → List ℕ → Type 0) (name : List ℕ) (known : FoundNode) (vs : List VariableNode) → AreBound V vs → find vs name ≡ Some known →
    V name known.ty
found_variable V name known vs are h = found_from V name known vs 0 are h

pub then_some : {X Y : Type 0} (P : X → Type 0) (Q : Y → Type 0) (o : Option X) (f : X → Option Y) → IfSome o P →
    ((x : X) → o ≡ Some x → P x → IfSome (f x) Q) → IfSome (and_then o f) Q
then_some P Q None f h g = tt
then_some P Q (Some x) f h g = g x refl h

pub map_some : {X Y : Type 0} (P : X → Type 0) (Q : Y → Type 0) (o : Option X) (f : X → Y) → IfSome o P → ((x : X) → P x → Q (f x)) →
    IfSome (option_map f o) Q
map_some P Q None f h g = tt
map_some P Q (Some x) f h g = g x h

pub both_false : (a b : Bool) → (a || b) ≡ false → (a ≡ false) × (b ≡ false)
both_false true b h = cc
both_false false b h = (refl, h)

pub not_false : (b : Bool) → not b ≡ false → b ≡ true
not_false true h = refl
not_false false h = cc

pub other_number : (m n : ℕ) → (m == n) ≡ false → m ≢ n
other_number m n h same = grind (arith, h, same)
