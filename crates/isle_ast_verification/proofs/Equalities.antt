-- What the tests of equality are made of: each part says whether two parts of a tree are the same.
use Rattle.std.proofs.Common.{◌≡◌, ℕ, ℤ, List, [], ◌∷◌, Bool, true, false, ◌&&◌, nat_eq, map, Option, None, Some, refl, ap, rules}
use Rattle.std.specs.Bool.{Decides, beq}
use Rattle.std.specs.Cmp.{signed_Decides}
use Rattle.std.specs.Option.{option_eq}
use Rattle.std.specs.Ordering.{int_eq}
use Rattle.std.specs.String.{string_eq}
use lib.Pointwise.{pointwise}
use Rattle.isle_base_source.specs.declared.pos.Pos.{Pos}
use Rattle.isle_ast_names.specs.declared.Ident.{Ident}
use Rattle.isle_ast_names.specs.TreeView.{name_of, names_of, optional_name_of}

-- what the derived tests of positions and of identifiers compute
abbrev pub pos_eq : Pos → Pos → Bool
pos_eq p q = nat_eq p.file q.file && nat_eq p.offset q.offset

abbrev pub ident_eq : Ident → Ident → Bool
ident_eq a b = string_eq a.0 b.0 && pos_eq a.1 b.1

pub ident_eq-Decides : (a b : Ident) → Decides (ident_eq a b) (name_of a ≡ name_of b)
ident_eq-Decides a b = search rules

pub pos_eq-Decides : (p q : Pos) → Decides (pos_eq p q) (p ≡ q)
pos_eq-Decides p q = search rules

pub nat_eq-Decides : (m n : ℕ) → Decides (nat_eq m n) (m ≡ n)
nat_eq-Decides m n = search rules

pub beq-Decides : (a b : Bool) → Decides (beq a b) (a ≡ b)
beq-Decides a b = search rules

pub and-Decides : {P Q : Type 0} (a b : Bool) → Decides a P → Decides b Q → Decides (a && b) (P × Q)
and-Decides true b p q = (λ e. (p.0 refl, q.0 e), λ h. q.1 h.1)
and-Decides false b p q = (λ e. cc, λ h. p.1 h.0)

pub Decides-map : {P Q : Type 0} (a : Bool) → (P → Q) → (Q → P) → Decides a P → Decides a Q
Decides-map a f g h = (λ e. f (h.0 e), λ q. h.1 (g q))

-- lists, by what each element means
pub lists-Decides : {A B : Type 0} (test : A → A → Bool) (meaning : A → B) → ((a b : A) → Decides (test a b) (meaning a ≡ meaning b)) →
    (xs ys : List A) → Decides (pointwise test xs ys) (map meaning xs ≡ map meaning ys)
lists-Decides test meaning each [] [] = (λ e. refl, λ e. refl)
lists-Decides test meaning each [] (y ∷ ys) = (λ e. cc, λ e. cc)
lists-Decides test meaning each (x ∷ xs) [] = (λ e. cc, λ e. cc)
lists-Decides test meaning each (x ∷ xs) (y ∷ ys) =
    Decides-map (test x y && pointwise test xs ys) (λ h. λ i. h.0 i ∷ h.1 i) (λ e. (cc, cc))
    (and-Decides (test x y) (pointwise test xs ys) (each x y) (lists-Decides test meaning each xs ys))

pub names-Decides : (xs ys : List Ident) → Decides (pointwise ident_eq xs ys) (names_of xs ≡ names_of ys)
names-Decides xs ys = lists-Decides ident_eq name_of ident_eq-Decides xs ys

pub option-Decides : (a b : Option Ident) → Decides (option_eq ident_eq a b) (optional_name_of a ≡ optional_name_of b)
option-Decides None None = (λ e. refl, λ e. refl)
option-Decides None (Some b) = (λ e. cc, λ e. cc)
option-Decides (Some a) None = (λ e. cc, λ e. cc)
option-Decides (Some a) (Some b) = Decides-map (ident_eq a b) (λ e. ap Some e) (λ e. cc) (ident_eq-Decides a b)

pub priority-Decides : (a b : Option ℤ) → Decides (option_eq int_eq a b) (a ≡ b)
priority-Decides None None = (λ e. refl, λ e. refl)
priority-Decides None (Some b) = (λ e. cc, λ e. cc)
priority-Decides (Some a) None = (λ e. cc, λ e. cc)
priority-Decides (Some a) (Some b) = Decides-map (int_eq a b) (λ e. ap Some e) (λ e. cc) (signed_Decides a b)
