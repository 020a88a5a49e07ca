-- The terms of the external constructors and extractors that came before.
use Rattle.std.proofs.Common.{◌≡◌, List, [], ◌∷◌, ◌++◌, Option, None, Some, Contains, refl, ap}
use Rattle.std.proofs.lemmas.List.Elements.{Contains-append_cases, Contains-append_left, Contains-push}
use Rattle.isle_base_source.specs.declared.pos.Pos.{Pos}
use Rattle.isle_ast_names.specs.Tree.{Name}
use Rattle.isle_ast.specs.Tree.{ExternDefinition, extern_const, extern_constructor, extern_extractor}
use Rattle.isle_check_declarations.specs.Faults.{KindNode}
use Rattle.isle_check_declarations.specs.Terms.{TermNode, declared_term, unknown_term, variant_term}
use Rattle.isle_check_environment.specs.Names.{place_of}
use Rattle.isle_check_declarations.specs.naming.Externs.{KnownNode, added, constructor_kind, new_external, with_extern_constructor, with_extern_extractor, with_extractor_of}
use Rattle.isle_check_laws.specs.BrokenExterns.{IsConstructorOf, IsExtractorOf}
use Rattle.isle_check_laws.proofs.Lists.{either, no_element, only}

-- each of these names is the term of one of these definitions, at its position
abbrev pub AreTermsOf : (ExternDefinition → Name → Pos → Type 0) → List ExternDefinition → List Name → Type 0
AreTermsOf IsOf before names =
    (n : Name) → Contains names n →
    (x : ExternDefinition) × (term : Name) × (pos : Pos) × Contains before x × IsOf x term pos × (term.text ≡ n.text) × (pos ≡ n.pos)

module _ (IsOf : ExternDefinition → Name → Pos → Type 0) (before : List ExternDefinition) (x : ExternDefinition) (earlier : List Name)
    (are : AreTermsOf IsOf before earlier) where
  kept : AreTermsOf IsOf (before ++ x ∷ []) earlier
  kept n among = let at = are n among in (at.0, at.1, at.2, Contains-append_left before (x ∷ []) at.0 at.3, at.4, at.5, at.6)

  one_more : (term : Name) (pos : Pos) → IsOf x term pos → AreTermsOf IsOf (before ++ x ∷ []) (earlier ++ record { text = term.text; pos = pos } ∷ [])
  one_more term pos is n among =
      let name : Name = record { text = term.text; pos = pos } in
      either (kept n)
      (λ new. let same = only name n new in
      (x, term, pos, Contains-push before x, is, ap (λ (m : Name). m.text) same, ap (λ (m : Name). m.pos) same))
      (Contains-append_cases earlier (name ∷ []) n among)

  no_more : AreTermsOf IsOf (before ++ x ∷ []) (earlier ++ [])
  no_more n among = either (kept n) (λ none. absurd (no_element n none)) (Contains-append_cases earlier [] n among)

  by_kind : (term : Name) (pos : Pos) → IsOf x term pos → (o : Option KindNode) → AreTermsOf IsOf (before ++ x ∷ []) (added o earlier term pos)
  by_kind term pos is None = one_more term pos is
  by_kind term pos is (Some kind) = kept

  by_places : (term : Name) (pos : Pos) → IsOf x term pos → (internal external : Option Pos) →
      AreTermsOf IsOf (before ++ x ∷ []) (earlier ++ new_external internal external term pos)
  by_places term pos is (Some place) external = no_more
  by_places term pos is None (Some place) = no_more
  by_places term pos is None None = one_more term pos is

  by_term : (term : Name) (pos : Pos) → IsOf x term pos → (node : TermNode) → (internal external : Option Pos) →
      AreTermsOf IsOf (before ++ x ∷ []) (with_extractor_of node internal external earlier term pos)
  by_term term pos is unknown_term internal external = kept
  by_term term pos is variant_term internal external = kept
  by_term term pos is (declared_term d) internal external = by_places term pos is internal external

pub more_constructors : (k : KnownNode) (before : List ExternDefinition) (x : ExternDefinition) (earlier : List Name) →
    AreTermsOf IsConstructorOf before earlier → AreTermsOf IsConstructorOf (before ++ x ∷ []) (with_extern_constructor k earlier x)
more_constructors k before (extern_constructor term func pos) earlier are =
    by_kind IsConstructorOf before (extern_constructor term func pos) earlier are term pos (func, refl) (constructor_kind k earlier term)
more_constructors k before (extern_extractor term func pos infallible) earlier are =
    kept IsConstructorOf before (extern_extractor term func pos infallible) earlier are
more_constructors k before (extern_const name ty pos) earlier are = kept IsConstructorOf before (extern_const name ty pos) earlier are

pub more_extractors : (k : KnownNode) (before : List ExternDefinition) (x : ExternDefinition) (earlier : List Name) →
    AreTermsOf IsExtractorOf before earlier → AreTermsOf IsExtractorOf (before ++ x ∷ []) (with_extern_extractor k earlier x)
more_extractors k before (extern_constructor term func pos) earlier are = kept IsExtractorOf before (extern_constructor term func pos) earlier are
more_extractors k before (extern_extractor term func pos infallible) earlier are =
    by_term IsExtractorOf before (extern_extractor term func pos infallible) earlier are term pos (func, infallible, refl) (k.terms term.text)
    (k.templates term.text) (place_of earlier term.text)
more_extractors k before (extern_const name ty pos) earlier are = kept IsExtractorOf before (extern_const name ty pos) earlier are
