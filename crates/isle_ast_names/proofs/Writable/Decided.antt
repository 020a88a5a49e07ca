-- The tests of names and of numbers tell which of them are writable.
use Rattle.std.proofs.Common.{[], ◌≡◌, ℕ, ◌^◌, ℤ, pos, negsuc, List, ◌∷◌, Bool, true, false, not, ◌&&◌, ◌||◌, Option, None, Some, IfSome, Decides, codes, refl, ap}
use Rattle.std.specs.List.{list_all}
use Rattle.std.proofs.lemmas.Bool.{false≢true, not-true}
use Rattle.std.proofs.lemmas.Bool.Decides.{Decides-and, Decides-ltb}
use Rattle.std.proofs.lemmas.Slice.Eq.{bytes_eq-Decides}
use Rattle.isle_ast_names.specs.Numbers.{IsSigned}
use Rattle.isle_ast_names.specs.Tree.{Name}
use Rattle.isle_ast_names.specs.Writable.{IsName, Each, IsNot}
use Rattle.isle_ast_names.specs.WritableDeciders.{is_name, are_names, is_optional_name, is_word, is_bool_name, is_signed}

-- several tests at once

pub always : Decides true (Unit {0})
always = (λ _. tt, λ _. refl)

pub never : Decides false ⊥
never = (λ e. false≢true e, λ h. absurd h)

pub three : {P Q R : Type 0} (x y z : Bool) → Decides x P → Decides y Q → Decides z R → Decides ((x && y) && z) (P × Q × R)
three x y z p q r =
    let both = Decides-and (x && y) z (Decides-and x y p q) r in
    (λ e. let h = both.0 e in (h.0.0, h.0.1, h.1), λ h. both.1 ((h.0, h.1), h.2))

pub four : {P Q R S : Type 0} (x y z w : Bool) → Decides x P → Decides y Q → Decides z R → Decides w S → Decides (((x && y) && z) && w) (P × Q × R × S)
four x y z w p q r s =
    let both = Decides-and ((x && y) && z) w (Decides-and (x && y) z (Decides-and x y p q) r) s in
    (λ e. let h = both.0 e in (h.0.0.0, h.0.0.1, h.0.1, h.1), λ h. both.1 (((h.0, h.1), h.2), h.3))

-- a test that is the condition itself, and one that is its contrary
pub true_decided : (b : Bool) → Decides b (b ≡ true)
true_decided b = (λ e. e, λ e. e)

pub false_decided : (b : Bool) → Decides (not b) (b ≡ false)
false_decided b = (not-true b, λ e. ap not e)

-- each element of a list
pub each_decided : {A : Type 0} (test : A → Bool) (P : A → Type 0) → ((x : A) → Decides (test x) (P x)) → (xs : List A) → Decides (list_all test xs) (Each P xs)
each_decided test P d [] = always
each_decided test P d (x ∷ xs) = Decides-and (test x) (list_all test xs) (d x) (each_decided test P d xs)

-- names

pub name_decided : (n : Name) → Decides (is_name n) (IsName n)
name_decided n = (λ e. e, λ e. e)

pub names_decided : (ns : List Name) → Decides (are_names ns) (Each IsName ns)
names_decided ns = each_decided is_name IsName name_decided ns

pub optional_name_decided : (n : Option Name) → Decides (is_optional_name n) (IfSome n IsName)
optional_name_decided None = always
optional_name_decided (Some n) = name_decided n

pub word_decided : (word : List ℕ) (n : Name) → Decides (is_word word n) (n.text ≡ word)
word_decided word n = bytes_eq-Decides n.text word

neither : {P Q : Type 0} (x y : Bool) → Decides x P → Decides y Q → Decides (not (x || y)) ((P → ⊥) × (Q → ⊥))
neither true y d e = (λ h. absurd (false≢true h), λ h. absurd (h.0 (d.0 refl)))
neither false true d e = (λ h. absurd (false≢true h), λ h. absurd (h.1 (e.0 refl)))
neither false false d e = (λ _. (λ p. false≢true (d.1 p), λ q. false≢true (e.1 q)), λ _. refl)

pub no_bool_decided : (n : Name) → Decides (not (is_bool_name n)) (IsNot n (codes "true") × IsNot n (codes "false"))
no_bool_decided n =
    neither (is_word (codes "true") n) (is_word (codes "false") n) (word_decided (codes "true") n) (word_decided (codes "false") n)

-- numbers

pub signed_decided : (bits : ℕ) (n : ℤ) → Decides (is_signed bits n) (IsSigned bits n)
signed_decided bits (pos n) = Decides-ltb n (2 ^ bits)
signed_decided bits (negsuc n) = Decides-ltb n (2 ^ bits)
