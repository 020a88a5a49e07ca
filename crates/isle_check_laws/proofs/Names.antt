-- The names of a list by their texts.
use Rattle.std.proofs.Common.{◌≡◌, ◌≢◌, inl, inr, ℕ, List, [], ◌∷◌, Bool, true, false, ◌||◌, Option, None, Some, is_some, Contains, refl, ap, sym, ◌∙◌, bytes_eq, if◌then◌else◌}
use Rattle.std.proofs.lemmas.Option.{none-some}
use Rattle.std.proofs.lemmas.Slice.Eq.{bytes_eq-Decides}
use Rattle.isle_base_source.specs.declared.pos.Pos.{Pos}
use Rattle.isle_ast_names.specs.Tree.{Name}
use Rattle.isle_check_environment.specs.Names.{has, or_else, place_of}
use Rattle.isle_check_environment.specs.Parts.{type_names}
use Rattle.isle_check_environment.specs.Types.{is_built_in, is_type}
use Rattle.isle_ast.specs.Tree.{TypeDefinition}
use Rattle.isle_check_laws.specs.Named.{IsNameOf, IsTypeName}
use Rattle.isle_check_laws.proofs.Lists.{either, first_or_later, here, later, no_element}

pub same_text : (a b : List ℕ) → bytes_eq a b ≡ true → a ≡ b
same_text a b h = (bytes_eq-Decides a b).0 h

pub other_text : (a b : List ℕ) → bytes_eq a b ≡ false → a ≢ b
other_text a b h same = let e : true ≡ false = sym ((bytes_eq-Decides a b).1 same) ∙ h in cc

-- a name at this position
abbrev pub IsNameAt : List Name → List ℕ → Pos → Type 0
IsNameAt names text place = (n : Name) × Contains names n × (n.text ≡ text) × (n.pos ≡ place)

same_place : (p q : Pos) → ◌≡◌ {A = Option Pos} (Some p) (Some q) → p ≡ q
same_place p q e = cc

found_first : (n : Name) (ns : List Name) (text : List ℕ) (place : Pos) (b : Bool) → bytes_eq n.text text ≡ b →
    (if b then Some n.pos else None) ≡ Some place → IsNameAt (n ∷ ns) text place
found_first n ns text place true is h = (n, here n ns, same_text n.text text is, same_place n.pos place h)
found_first n ns text place false is h = cc

found_by : (n : Name) (ns : List Name) (text : List ℕ) (place : Pos) (o : Option Pos) → place_of ns text ≡ o →
    (place_of ns text ≡ Some place → IsNameAt ns text place) →
    or_else o (if bytes_eq n.text text then Some n.pos else None) ≡ Some place → IsNameAt (n ∷ ns) text place
found_by n ns text place None is more h = found_first n ns text place (bytes_eq n.text text) refl h
found_by n ns text place (Some p) is more h = let at = more (is ∙ h) in (at.0, later n ns at.0 at.1, at.2, at.3)

-- a name that is found stands in the list, at its position
pub found : (names : List Name) (text : List ℕ) (place : Pos) → place_of names text ≡ Some place → IsNameAt names text place
found [] text place h = cc
found (n ∷ ns) text place h = found_by n ns text place (place_of ns text) refl (found ns text place) h

not_first : (m : Name) (ns : List Name) (text : List ℕ) (b : Bool) → bytes_eq m.text text ≡ b →
    (IsNameOf ns text → ⊥) → ◌≡◌ {A = Option Pos} (if b then Some m.pos else None) None → IsNameOf (m ∷ ns) text → ⊥
not_first m ns text true is more h named = absurd (none-some m.pos (sym h))
not_first m ns text false is more h named =
    either (λ same. other_text m.text text is (ap (λ (x : Name). x.text) same ∙ named.2)) (λ among. more (named.0, among, named.2))
    (first_or_later m ns named.0 named.1)

not_found_by : (m : Name) (ns : List Name) (text : List ℕ) (o : Option Pos) → place_of ns text ≡ o →
    (place_of ns text ≡ None → IsNameOf ns text → ⊥) →
    or_else o (if bytes_eq m.text text then Some m.pos else None) ≡ None → IsNameOf (m ∷ ns) text → ⊥
not_found_by m ns text None is more h named = not_first m ns text (bytes_eq m.text text) refl (more is) h named
not_found_by m ns text (Some p) is more h named = absurd (none-some p (sym h))

-- a name that is not found does not stand in the list
pub not_found : (names : List Name) (text : List ℕ) → place_of names text ≡ None → IsNameOf names text → ⊥
not_found [] text h named = no_element named.0 named.1
not_found (m ∷ ns) text h named = not_found_by m ns text (place_of ns text) refl (not_found ns text) h named

pub has_name : (names : List Name) (text : List ℕ) → has names text ≡ true → IsNameOf names text
has_name names text h = by (place_of names text) refl h
  where
    by : (o : Option Pos) → place_of names text ≡ o → is_some o ≡ true → IsNameOf names text
    by None is k = cc
    by (Some place) is k = let at = found names text place is in (at.0, at.1, at.2)

pub has_no_name : (names : List Name) (text : List ℕ) → has names text ≡ false → IsNameOf names text → ⊥
has_no_name names text h named = by (place_of names text) refl h
  where
    by : (o : Option Pos) → place_of names text ≡ o → is_some o ≡ false → ⊥
    by None is k = not_found names text is named
    by (Some place) is k = cc

-- a type that is not known has no name of a type
pub unknown_type : (ts : List TypeDefinition) (text : List ℕ) → is_type (type_names ts) text ≡ false → IsTypeName ts text → ⊥
unknown_type ts text h named = by (is_built_in text) refl h named
  where
    by : (b : Bool) → is_built_in text ≡ b → (b || has (type_names ts) text) ≡ false → IsTypeName ts text → ⊥
    by true is k n = cc
    by false is k (inl built_in) = let e : true ≡ false = sym built_in ∙ is in cc
    by false is k (inr n) = has_no_name (type_names ts) text k n
