-- What is there stays: one option within another; and what holds of the value, if there is one.
use Rattle.std.proofs.Common.{◌≡◌, List, Bool, true, false, Option, None, Some, option_map, option_and_then, IfSome, if◌then◌else◌, refl, ap, sym, subst, ◌∙◌}
use Rattle.isle_ast_rules.specs.Tree.{PatternNode, PatternList}
use Rattle.isle_ast_rules.specs.Templates.{join}
use Rattle.isle_expand_core.specs.Definitions.{both}

-- where one has a value, the other has that value
abbrev pub Within : {A : Type 0} → Option A → Option A → Type 0
Within None o = Unit {0}
Within (Some x) o = o ≡ Some x

pub within_self : {A : Type 0} (o : Option A) → Within o o
within_self None = tt
within_self (Some x) = refl

pub within_at : {A : Type 0} (o n : Option A) (x : A) → Within o n → o ≡ Some x → n ≡ Some x
within_at None n x w h = absurd (cc)
within_at (Some y) n x w h = w ∙ h

pub within_none : {A : Type 0} (o n : Option A) → Within o n → n ≡ None → o ≡ None
within_none None n w h = refl
within_none (Some x) n w h = absurd (cc)

pub within_trans : {A : Type 0} (o n m : Option A) → Within o n → Within n m → Within o m
within_trans None n m w v = tt
within_trans (Some x) n m w v = within_at n m x v w

pub within_map : {A B : Type 0} (f : A → B) (o n : Option A) → Within o n → Within (option_map f o) (option_map f n)
within_map f None n w = tt
within_map f (Some x) n w = ap (option_map f) w

pub within_then : {A B : Type 0} (f g : A → Option B) (o n : Option A) → ((x : A) → Within (f x) (g x)) → Within o n →
    Within (option_and_then f o) (option_and_then g n)
within_then f g None n k w = tt
within_then f g (Some x) n k w = subst (λ m. Within (f x) (option_and_then g m)) (sym w) (k x)

pub within_if : {A : Type 0} (b : Bool) (o n : Option A) → Within o n → Within (if b then o else None) (if b then n else None)
within_if true o n w = w
within_if false o n w = tt

pub within_join : (p q : Option PatternNode) (ps qs : Option PatternList) → Within p q → Within ps qs → Within (join p ps) (join q qs)
within_join None q ps qs w v = tt
within_join (Some p) q None qs w v = tt
within_join (Some p) q (Some ps) qs w v = λ i. join (w i) (v i)

pub within_both : {A : Type 0} (o n : Option (List A)) (os ns : Option (List A)) → Within o n → Within os ns → Within (both o os) (both n ns)
within_both None n os ns w v = tt
within_both (Some xs) n None ns w v = tt
within_both (Some xs) n (Some ys) ns w v = λ i. both (w i) (v i)

pub if_some_map : {A B : Type 0} (f : A → B) (P : A → Type 0) (Q : B → Type 0) (o : Option A) → ((x : A) → P x → Q (f x)) → IfSome o P →
    IfSome (option_map f o) Q
if_some_map f P Q None k h = tt
if_some_map f P Q (Some x) k h = k x h

pub if_some_then : {A B : Type 0} (f : A → Option B) (P : A → Type 0) (Q : B → Type 0) (o : Option A) → ((x : A) → P x → IfSome (f x) Q) → IfSome o P →
    IfSome (option_and_then f o) Q
if_some_then f P Q None k h = tt
if_some_then f P Q (Some x) k h = k x h

pub if_some_if : {A : Type 0} (b : Bool) (P : A → Type 0) (o : Option A) → IfSome o P → IfSome (if b then o else None) P
if_some_if true P o h = h
if_some_if false P o h = tt
