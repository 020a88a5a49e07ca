-- Typing only adds errors; and what holds unless it adds one.
use Rattle.std.proofs.Common.{◌≡◌, ℕ, ◌+◌, ◌≤◌, List, [], ◌∷◌, ◌++◌, length, length-append, le_refl, Bool, true, false, Option, None, Some, IfSome, is_none, option_map, refl, ap, sym, ◌∙◌, subst, append_assoc, arith, bytes_eq}
use Rattle.std.proofs.lemmas.Slice.Eq.{bytes_eq-Decides}
use Rattle.std.specs.Prelude.{◌≢◌}
use Rattle.isle_base_source.specs.declared.pos.Pos.{Pos}
use Rattle.isle_check_typing.specs.Faults.{KindNode}
use Rattle.isle_check_typing.specs.Progress.{ProgressNode, VariableNode, tell, unless}
use Rattle.isle_check_typing.specs.Typings.{Typings, and_then, gives, with_typed}
use Rattle.isle_check_laws.specs.Untold.{HasPart}

-- errors are only added between two points, and P holds where none is
pub record OrTells (P : Type 0) (before after : ProgressNode) : Type 0 where
  pub grows : length before.faults ≤ length after.faults
  pub good : length after.faults ≤ length before.faults → P

-- parts behind those that are typed before have this
abbrev pub HasParts : {T : Type 0} → (List T → List VariableNode → Type 0) → List T → Typings T → Type 0
HasParts {T = T} Holds before r = (xs : List T) × ((r.typed ≡ before ++ xs) × Holds xs r.after.bound)

pub both : {P Q : Type 0} {s m a : ProgressNode} → OrTells P s m → OrTells Q m a → OrTells (P × Q) s a
both one two =
    record {
      grows = omega (arith, one.grows, two.grows);
      good = λ le. (one.good (omega (arith, two.grows, le)), two.good (omega (arith, one.grows, le)));
    }

-- after an error nothing is left to show
pub never : {P : Type 0} {s a : ProgressNode} → OrTells ⊥ s a → OrTells P s a
never h = record { grows = h.grows; good = λ le. absurd (h.good le) }

told : (kind : KindNode) (place : Pos) (s : ProgressNode) → length (tell kind place s).faults ≡ length s.faults + 1
told kind place s = omega (arith, length-append s.faults (record { kind = kind; pos = place } ∷ []))

pub tells : (kind : KindNode) (place : Pos) (s : ProgressNode) → OrTells ⊥ s (tell kind place s)
tells kind place s =
    record {
      grows = omega (arith, told kind place s);
      good = λ le. omega (arith, told kind place s, le);
    }

-- what is given where nothing is told but by a test
pub leaf : {T : Type 0} (Holds : T → List VariableNode → Type 0) (x : T) (b : Bool) (kind : KindNode) (place : Pos) (s : ProgressNode) →
    (b ≡ true → Holds x s.bound) → OrTells (HasPart Holds (gives x (unless b kind place s))) s (unless b kind place s)
leaf Holds x true kind place s h = record { grows = le_refl (length s.faults); good = λ _. (x, (refl, h refl)) }
leaf Holds x false kind place s h = never (tells kind place s)

pub change_some : {X : Type 0} (o : Option X) (P Q : X → Type 0) → IfSome o P → ((x : X) → P x → Q x) → IfSome o Q
change_some None P Q h f = tt
change_some (Some x) P Q h f = f x h

pub map_some : {X Y : Type 0} (o : Option X) (f : X → Y) (P : X → Type 0) (Q : Y → Type 0) → IfSome o P → ((x : X) → P x → Q (f x)) → IfSome (option_map f o) Q
map_some None f P Q h g = tt
map_some (Some x) f P Q h g = g x h

pub bind_some : {X Y : Type 0} (o : Option X) (f : X → Option Y) (P : X → Type 0) (Q : Y → Type 0) → IfSome o P → ((x : X) → P x → IfSome (f x) Q) → IfSome (and_then o f) Q
bind_some None f P Q h g = tt
bind_some (Some x) f P Q h g = g x h

pub at_some : {X : Type 0} (P : X → Type 0) (o : Option X) (x : X) → o ≡ Some x → IfSome o P → P x
at_some P o x is h = subst (λ w. IfSome w P) is h

-- what holds behind each point holds behind a test, which has passed
pub passes : {Y : Type 0} (after : Y → ProgressNode) (b : Bool) (kind : KindNode) (place : Pos) (s : ProgressNode) (m : ProgressNode → Option Y) (P : ProgressNode → Y → Type 0) →
    ((w : ProgressNode) → IfSome (m w) (λ y. OrTells (P w y) w (after y))) →
    IfSome (m (unless b kind place s)) (λ y. OrTells ((b ≡ true) × P s y) s (after y))
passes after true kind place s m P all =
    change_some (m s) (λ y. OrTells (P s y) s (after y)) (λ y. OrTells ((true ≡ true) × P s y) s (after y)) (all s)
    (λ y h. record { grows = h.grows; good = λ le. (refl, h.good le) })
passes after false kind place s m P all =
    change_some (m (tell kind place s)) (λ y. OrTells (P (tell kind place s) y) (tell kind place s) (after y)) (λ y. OrTells ((false ≡ true) × P s y) s (after y))
    (all (tell kind place s))
    (λ y h. let b = both (tells kind place s) h in record { grows = b.grows; good = λ le. absurd ((b.good le).0) })

-- a list with one more part, and the parts behind it
pub follows : {T : Type 0} (before : List T) (o : Option T) (x : T) (all more : List T) → o ≡ Some x → all ≡ with_typed before o ++ more → all ≡ before ++ (x ∷ more)
follows before o x all more is are =
    are ∙ ap (λ w. with_typed before w ++ more) is ∙ append_assoc before (x ∷ []) more

pub same_text : (a b : List ℕ) → bytes_eq a b ≡ true → a ≡ b
same_text a b h = (bytes_eq-Decides a b).0 h

pub equal_text : (a : List ℕ) → bytes_eq a a ≡ true
equal_text a = (bytes_eq-Decides a a).1 refl

pub other_text : (a b : List ℕ) → bytes_eq a b ≡ false → a ≢ b
other_text a b h same = let e : true ≡ false = sym ((bytes_eq-Decides a b).1 same) ∙ h in cc

differs_by : (a b : List ℕ) → a ≢ b → (r : Bool) → bytes_eq a b ≡ r → bytes_eq a b ≡ false
differs_by a b h true is = absurd (h (same_text a b is))
differs_by a b h false is = is

pub differs : (a b : List ℕ) → a ≢ b → bytes_eq a b ≡ false
differs a b h = differs_by a b h (bytes_eq a b) refl

pub none_is : {X : Type 0} (o : Option X) → is_none o ≡ true → o ≡ None
none_is None h = refl
none_is (Some x) h = cc
