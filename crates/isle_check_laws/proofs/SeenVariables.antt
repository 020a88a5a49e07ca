-- The variables that may be named are bound.
use Rattle.std.proofs.Common.{◌≡◌, ℕ, ◌+◌, add-zero, append-nil, true≢false, ◌==◌, ◌||◌, ◌&&◌, List, [], ◌∷◌, ◌++◌, length, map, take, drop, Bool, true, false, Option, Some, None, refl, ap, ap₂, sym, ◌∙◌, subst, append_assoc, arith, bytes_eq, if◌then◌else◌}
use Rattle.std.proofs.lemmas.Bool.Decides.{Decides-eqb}
use Rattle.std.proofs.lemmas.List.{take_at, drop_at}
use Rattle.std.proofs.lemmas.Option.{none-some, same_Some}
use Rattle.std.specs.List.{list_any}
use Rattle.isle_check_environment.specs.signatures.Entries.{or_else}
use Rattle.isle_check_typing.specs.Progress.{FoundNode, VariableNode, find, find_from, hidden}
use Rattle.isle_check_laws.specs.HasExpressionType.{bound_behind}
use Rattle.isle_check_laws.specs.HasType.{bound_more}
use Rattle.isle_check_laws.specs.Closed.{IsBound}
use Rattle.isle_check_overlaps.proofs.Booleans.{and_first, true_first, true_second}

-- the number of each variable that may be named is among these, if the first has the number `i`
abbrev pub SeenFrom : (i : ℕ) → List VariableNode → (before : List ℕ) → Type 0
SeenFrom i [] before = Unit {0}
SeenFrom i (v ∷ vs) before = (v.is_visible ≡ true → IsBound before i) × SeenFrom (i + 1) vs before

abbrev pub Seen : List VariableNode → (before : List ℕ) → Type 0
Seen bound before = SeenFrom 0 bound before

pub bound_before : (before more : List ℕ) (x : ℕ) → IsBound before x → IsBound (before ++ more) x
bound_before [] more x h = cc
bound_before (y ∷ before) more x h = by (x == y) h (λ g. bound_before before more x g) where
  by : (b : Bool) → (b || list_any (λ z. x == z) before) ≡ true → (IsBound before x → IsBound (before ++ more) x) →
      (b || list_any (λ z. x == z) (before ++ more)) ≡ true
  by true h later = refl
  by false h later = later h

pub bound_last : (before : List ℕ) (x : ℕ) → IsBound (before ++ x ∷ []) x
bound_last [] x = true_first (x == x) false ((Decides-eqb x x).1 refl)
bound_last (y ∷ before) x = true_second (x == y) (list_any (λ z. x == z) (before ++ x ∷ [])) (bound_last before x)

weaker_from : (i : ℕ) (bound : List VariableNode) (before more : List ℕ) → SeenFrom i bound before → SeenFrom i bound (before ++ more)
weaker_from i [] before more s = tt
weaker_from i (v ∷ vs) before more s = (λ h. bound_before before more i (s.0 h), weaker_from (i + 1) vs before more s.1)

pub seen_weaker : (bound : List VariableNode) (before more : List ℕ) → Seen bound before → Seen bound (before ++ more)
seen_weaker bound before more s = weaker_from 0 bound before more s

more_from : (i : ℕ) (bound : List VariableNode) (v : VariableNode) (before : List ℕ) → SeenFrom i bound before → IsBound before (i + length bound) →
    SeenFrom i (bound ++ v ∷ []) before
more_from i [] v before s h = (λ _. subst (IsBound before) (add-zero i) h, tt)
more_from i (u ∷ vs) v before s h = (
  s.0,
  more_from (i + 1) vs v before s.1 (let e : i + length (u ∷ vs) ≡ i + 1 + length vs = omega arith in subst (IsBound before) e h),
)

-- one more variable
pub seen_more : (bound : List VariableNode) (name ty : List ℕ) (before : List ℕ) → Seen bound before → IsBound before (length bound) → Seen (bound_more bound name ty) before
seen_more bound name ty before s h =
    more_from 0 bound (record { name = name; ty = ty; is_visible = true }) before s (let e : length bound ≡ 0 + length bound = omega arith in subst (IsBound before) e h)

found_here : (i : ℕ) (v : VariableNode) (known : FoundNode) (before : List ℕ) (b : Bool) → (b ≡ true → IsBound before i) →
    (if b then Some (record { number = i; ty = v.ty }) else None) ≡ Some known → IsBound before known.number
found_here i v known before true s h =
    subst (IsBound before) (ap (λ (n : FoundNode). n.number) (same_Some (record { number = i; ty = v.ty }) known h)) (s refl)
found_here i v known before false s h = absurd (none-some known h)

found_or : (o p : Option FoundNode) (known : FoundNode) (P : Type 0) → (o ≡ Some known → P) → (p ≡ Some known → P) → or_else o p ≡ Some known → P
found_or None p known P first second h = second h
found_or (Some x) p known P first second h = first h

found_from : (i : ℕ) (bound : List VariableNode) (before name : List ℕ) (known : FoundNode) → SeenFrom i bound before → find_from i bound name ≡ Some known → IsBound before known.number
found_from i [] before name known s h = absurd (none-some known h)
found_from i (v ∷ vs) before name known s h =
    found_or (find_from (i + 1) vs name) (if v.is_visible && bytes_eq v.name name then Some (record { number = i; ty = v.ty }) else None) known (IsBound before known.number)
    (λ g. found_from (i + 1) vs before name known s.1 g)
    (λ g. found_here i v known before (v.is_visible && bytes_eq v.name name) (λ is. s.0 (and_first v.is_visible (bytes_eq v.name name) is)) g) h

-- a variable that is found is bound
pub found_seen : (bound : List VariableNode) (before name : List ℕ) (known : FoundNode) → Seen bound before → find bound name ≡ Some known → IsBound before known.number
found_seen bound before name known s h = found_from 0 bound before name known s h

-- none of these may be named
abbrev pub AreHidden : List VariableNode → Type 0
AreHidden [] = Unit {0}
AreHidden (v ∷ vs) = (v.is_visible ≡ false) × AreHidden vs

pub all_hidden : (vs : List VariableNode) → AreHidden (map hidden vs)
all_hidden [] = tt
all_hidden (v ∷ vs) = (refl, all_hidden vs)

append_hidden : (us vs : List VariableNode) → AreHidden us → AreHidden vs → AreHidden (us ++ vs)
append_hidden [] vs h g = g
append_hidden (u ∷ us) vs h g = (h.0, append_hidden us vs h.1 g)

not_visible : (v : VariableNode) (P : Type 0) → v.is_visible ≡ false → v.is_visible ≡ true → P
not_visible v P h g = let e : false ≡ true = sym h ∙ g in absurd (true≢false (sym e))

none_from : (i : ℕ) (more : List VariableNode) (before : List ℕ) → AreHidden more → SeenFrom i more before
none_from i [] before h = tt
none_from i (v ∷ vs) before h = (not_visible v (IsBound before i) h.0, none_from (i + 1) vs before h.1)

behind_from : (i : ℕ) (bound more : List VariableNode) (before : List ℕ) → SeenFrom i bound before → AreHidden more → SeenFrom i (bound ++ more) before
behind_from i [] more before s h = none_from i more before h
behind_from i (v ∷ vs) more before s h = (s.0, behind_from (i + 1) vs more before s.1 h)

-- behind these variables there are none that may be named
abbrev pub Extends : (bound after : List VariableNode) → Type 0
Extends bound after = (more : List VariableNode) × ((after ≡ bound ++ more) × AreHidden more)

pub extends_none : (bound : List VariableNode) → Extends bound bound
extends_none bound = ([], (sym (append-nil bound), tt))

pub extends_both : (bound middle after : List VariableNode) → Extends bound middle → Extends middle after → Extends bound after
extends_both bound middle after m n = (
  m.0 ++ n.0,
  (n.1.0 ∙ (ap (λ l. l ++ n.0) m.1.0 ∙ append_assoc bound m.0 n.0), append_hidden m.0 n.0 m.1.1 n.1.1),
)

pub seen_behind : (bound after : List VariableNode) (before : List ℕ) → Extends bound after → Seen bound before → Seen after before
seen_behind bound after before e s = subst (λ l. Seen l before) (sym e.1.0) (behind_from 0 bound e.0 before s e.1.1)

-- behind a `let`
pub extends_let : (bound rest inner : List VariableNode) → inner ≡ bound ++ rest → Extends bound (bound_behind bound inner)
extends_let bound rest inner is = (
  map hidden rest,
  (
    ap (λ l. take (length bound) l ++ map hidden (drop (length bound) l)) is
        ∙ ap₂ (λ p q. p ++ map hidden q) (take_at bound rest (length bound) refl) (drop_at bound rest (length bound) refl),
    all_hidden rest,
  ),
)
