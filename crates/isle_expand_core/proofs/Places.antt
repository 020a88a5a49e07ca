-- The place of the macro that a symbol means.
use Rattle.std.proofs.Common.{◌≡◌, ℕ, ◌+◌, suc, List, [], ◌∷◌, map, Bool, true, false, bytes_eq, Option, None, Some, slice_get, if◌then◌else◌, refl, ap, subst, ◌∙◌, arith}
use Rattle.isle_ast_names.specs.Tree.{Name}
use Rattle.isle_ast_rules.specs.Templates.{first_from}
use Rattle.isle_expand_core.specs.Macros.{MacroNode, meant, place_of}

abbrev pub terms : List MacroNode → List Name
terms ms = map (λ m. m.term) ms

no_place_if : (b : Bool) (k : ℕ) (m : MacroNode) (o : Option ℕ) (n : Option MacroNode) → (o ≡ None → n ≡ None) →
    (if b then Some k else o) ≡ None → (if b then Some m else n) ≡ None
no_place_if true k m o n f h = absurd (cc)
no_place_if false k m o n f h = f h

no_place_from : (k : ℕ) (text : List ℕ) (ms : List MacroNode) → first_from k text (terms ms) ≡ None → meant text ms ≡ None
no_place_from k text [] h = refl
no_place_from k text (m ∷ ms) h =
    no_place_if (bytes_eq m.term.text text) k m (first_from (k + 1) text (terms ms)) (meant text ms) (no_place_from (k + 1) text ms) h

-- a symbol that has no place means nothing
pub no_place : (text : List ℕ) (ms : List MacroNode) → place_of text ms ≡ None → meant text ms ≡ None
no_place text ms h = no_place_from 0 text ms h

-- the macro at a place is meant
pub record IsMeantAt (text : List ℕ) (ms : List MacroNode) (i : ℕ) : Type 0 where
  pub found : MacroNode
  pub there : slice_get ms i ≡ Some found
  pub means : meant text ms ≡ Some found

pub record FoundFrom (k : ℕ) (text : List ℕ) (ms : List MacroNode) (p : ℕ) : Type 0 where
  pub index : ℕ
  pub is : p ≡ k + index
  pub at : IsMeantAt text ms index

place_if : (b : Bool) (k p : ℕ) (text : List ℕ) (m : MacroNode) (ms : List MacroNode) → bytes_eq m.term.text text ≡ b →
    (first_from (k + 1) text (terms ms) ≡ Some p → FoundFrom (k + 1) text ms p) →
    (if b then Some k else first_from (k + 1) text (terms ms)) ≡ Some p → FoundFrom k text (m ∷ ms) p
place_if true k p text m ms test f h =
    let same : k ≡ p = cc in
    record {
      index = 0;
      is = omega (arith, same);
      at = record { found = m; there = refl; means = ap (λ b. if b then Some m else meant text ms) test };
    }
place_if false k p text m ms test f h =
    let rest = f h in
    record {
      index = suc rest.index;
      is = omega (arith, rest.is);
      at = record {
        found = rest.at.found;
        there = rest.at.there;
        means = ap (λ b. if b then Some m else meant text ms) test ∙ rest.at.means;
      };
    }

place_from : (k p : ℕ) (text : List ℕ) (ms : List MacroNode) → first_from k text (terms ms) ≡ Some p → FoundFrom k text ms p
place_from k p text [] h = absurd (cc)
place_from k p text (m ∷ ms) h = place_if (bytes_eq m.term.text text) k p text m ms refl (place_from (k + 1) p text ms) h

pub place_means : (text : List ℕ) (ms : List MacroNode) (p : ℕ) → place_of text ms ≡ Some p → IsMeantAt text ms p
place_means text ms p h =
    let found = place_from 0 p text ms h in
    let same : found.index ≡ p = omega (arith, found.is) in
    subst (IsMeantAt text ms) same found.at
