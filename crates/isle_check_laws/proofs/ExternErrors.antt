-- Each error of external constructors and extractors is broken, in a program whose terms are right.
use Rattle.std.proofs.Common.{◌≡◌, ℕ, List, [], ◌∷◌, ◌++◌, Bool, true, false, Option, None, Some, Contains, refl, ap, ◌∙◌, subst}
use Rattle.std.specs.List.{All, flat_map}
use Rattle.std.proofs.lemmas.List.Elements.{All-append, All-nil}
use Rattle.isle_base_source.specs.declared.pos.Pos.{Pos}
use Rattle.isle_ast_names.specs.Tree.{Name}
use Rattle.isle_ast_rules.specs.Roots.{root_term}
use Rattle.isle_ast_rules.specs.Tree.{RuleDefinition}
use Rattle.isle_ast.specs.Tree.{Definition, ExternDefinition, attr, converter, decl, external, extern_const, extern_constructor, extern_extractor, extractor, form, instantiation, model, rule, spec, spec_macro, state, type_def}
use Rattle.isle_check_declarations.specs.Faults as kinds
use Rattle.isle_check_declarations.specs.Faults.{FaultNode, fault}
use Rattle.isle_check_declarations.specs.TermFaults.{term_faults}
use Rattle.isle_check_declarations.specs.Terms.{TermNode, declared_term, terms, unknown_term, variant_term}
use Rattle.isle_check_environment.specs.Names.{has, place_of}
use Rattle.isle_check_environment.specs.Parts.{extractors_in, rule_in}
use Rattle.isle_check_environment.specs.Terms.{externs_in, name_list, ruled_name}
use Rattle.isle_check_declarations.specs.naming.Externs.{constructor_kind_of, doubled_external, extern_faults, faults_at, known, with_extern_constructor, with_extern_extractor, wrong_extern, wrong_externs, wrong_extractor_of}
use Rattle.isle_check_declarations.specs.naming.Extractors.{reached, template_names}
use Rattle.isle_check_laws.specs.BrokenExterns as broken
use Rattle.isle_check_laws.specs.BrokenExterns.{HasRule, IsBrokenExtern, IsConstructorOf, IsExtractorOf}
use Rattle.isle_check_laws.specs.Named.{StandsBehind}
use Rattle.isle_check_laws.proofs.ExternNames.{AreTermsOf, more_constructors, more_extractors}
use Rattle.isle_check_laws.proofs.ExtractorErrors.{templates_are}
use Rattle.isle_check_laws.proofs.Lists.{here, in_part, no_element, one, only, part_in, stands_in, step, two}
use Rattle.isle_check_laws.proofs.Meanings.{Means, meaning}
use Rattle.isle_check_laws.proofs.Names.{found, has_name}

-- the rule of a term that has rules

root_is : (o : Option Name) (n : Name) → Contains (name_list o) n → o ≡ Some n
root_is None n among = absurd (no_element n among)
root_is (Some m) n among = ap (λ x. Some x) (only m n among)

rule_is : (d : Definition) (n : Name) → Contains (ruled_name d) n → (r : RuleDefinition) × Contains (rule_in d) r × (root_term r.pattern ≡ Some n)
rule_is (rule r) n among = (r, here r [], root_is (root_term r.pattern) n among)
rule_is (type_def _) n among = absurd (no_element n among)
rule_is (extractor _) n among = absurd (no_element n among)
rule_is (decl _) n among = absurd (no_element n among)
rule_is (attr _) n among = absurd (no_element n among)
rule_is (spec _) n among = absurd (no_element n among)
rule_is (spec_macro _) n among = absurd (no_element n among)
rule_is (model _) n among = absurd (no_element n among)
rule_is (state _) n among = absurd (no_element n among)
rule_is (form _) n among = absurd (no_element n among)
rule_is (instantiation _) n among = absurd (no_element n among)
rule_is (external _) n among = absurd (no_element n among)
rule_is (converter _) n among = absurd (no_element n among)

pub has_rule : (ds : List Definition) (text : List ℕ) → has (flat_map ruled_name ds) text ≡ true → HasRule ds text
has_rule ds text h =
    let n = has_name (flat_map ruled_name ds) text h in
    let d = in_part ruled_name ds n.0 n.1 in
    let r = rule_is d.0 n.0 d.2 in
    (r.0, n.0, part_in rule_in ds d.0 r.0 d.1 r.1, r.2, n.2)

module _ (ds : List Definition) where
  abbrev Broken : FaultNode → Type 0
  Broken f = IsBrokenExtern ds f.kind f.pos

  module _ (before : List ExternDefinition) (x : ExternDefinition) (stands : StandsBehind (externs_in ds) before x) (term : Name) (pos : Pos) where
    abbrev among : Contains (externs_in ds) x
    among = stands_in (externs_in ds) before x stands

    -- constructors

    module _ (is : IsConstructorOf x term pos) (earlier : List Name) (are : AreTermsOf IsConstructorOf before earlier) where
      constructor : (node : TermNode) → Means ds term.text node → (ruled : Bool) → has (flat_map ruled_name ds) term.text ≡ ruled →
          (again : Bool) → has earlier term.text ≡ again → All Broken (faults_at (constructor_kind_of node ruled again term) pos)
      constructor unknown_term means ruled has_rules again has_another =
          one Broken (fault (kinds.constructor_unknown term) pos) (broken.constructor_unknown x term pos among is means)
      constructor variant_term means ruled has_rules again has_another =
          one Broken (fault (kinds.constructor_variant term) pos) (broken.constructor_variant x term pos among is means)
      constructor (declared_term d) means true has_rules again has_another =
          one Broken (fault (kinds.constructor_ruled term) pos) (broken.constructor_ruled x term pos among is (has_rule ds term.text has_rules))
      constructor (declared_term d) means false has_rules true has_another =
          let n = has_name earlier term.text has_another in
          let first = are n.0 n.1 in
          one Broken (fault (kinds.constructor_again term) pos)
          (broken.constructor_again x first.0 term first.1 pos first.2 before stands is first.3 first.4 (first.5 ∙ n.2))
      constructor (declared_term d) means false has_rules false has_another = All-nil Broken

    -- extractors

    module _ (is : IsExtractorOf x term pos) (earlier : List Name) (are : AreTermsOf IsExtractorOf before earlier) where
      abbrev internals : List Name
      internals = template_names (terms ds) [] (reached (terms ds) (extractors_in ds))

      doubled : (internal : Option Pos) → place_of internals term.text ≡ internal → (outer : Option Pos) → place_of earlier term.text ≡ outer →
          All Broken (doubled_external internal outer term pos)
      doubled (Some place) inside outer outside =
          let at = found internals term.text place inside in
          let first = templates_are ds at.0 at.1 in
          two Broken (fault (kinds.external_internal term) pos) (fault (kinds.internal_before term) place)
          (broken.external_internal x term pos among is (first.0, first.1, first.2 ∙ at.2))
          (subst (λ p. IsBrokenExtern ds (kinds.internal_before term) p) (first.3 ∙ at.3)
          (broken.internal_before x term pos first.0 among is first.1 (first.2 ∙ at.2)))
      doubled None inside (Some place) outside =
          let at = found earlier term.text place outside in
          let first = are at.0 at.1 in
          two Broken (fault (kinds.external_again term) pos) (fault (kinds.external_before term) place)
          (broken.external_again x first.0 term first.1 pos first.2 before stands is first.3 first.4 (first.5 ∙ at.2))
          (subst (λ p. IsBrokenExtern ds (kinds.external_before term) p) (first.6 ∙ at.3)
          (broken.external_before x first.0 term first.1 pos first.2 before stands is first.3 first.4 (first.5 ∙ at.2)))
      doubled None inside None outside = All-nil Broken

      external_extractor : (node : TermNode) → Means ds term.text node → (internal : Option Pos) → place_of internals term.text ≡ internal →
          (outer : Option Pos) → place_of earlier term.text ≡ outer → All Broken (wrong_extractor_of node internal outer term pos)
      external_extractor unknown_term means internal inside outer outside =
          one Broken (fault (kinds.external_unknown term) pos) (broken.external_unknown x term pos among is means)
      external_extractor variant_term means internal inside outer outside =
          one Broken (fault (kinds.external_variant term) pos) (broken.external_variant x term pos among is means)
      external_extractor (declared_term d) means internal inside outer outside = doubled internal inside outer outside

  module _ (right : term_faults ds ≡ []) where
    extern : (before : List ExternDefinition) (x : ExternDefinition) → StandsBehind (externs_in ds) before x →
        (constructors extractors : List Name) → AreTermsOf IsConstructorOf before constructors → AreTermsOf IsExtractorOf before extractors →
        All Broken (wrong_extern (known ds) constructors extractors x)
    extern before (extern_constructor term func pos) stands constructors extractors built taken =
        constructor before (extern_constructor term func pos) stands term pos (func, refl) constructors built
        (terms ds term.text) (meaning ds right term.text) (has (flat_map ruled_name ds) term.text) refl (has constructors term.text) refl
    extern before (extern_extractor term func pos infallible) stands constructors extractors built taken =
        external_extractor before (extern_extractor term func pos infallible) stands term pos (func, infallible, refl) extractors taken
        (terms ds term.text) (meaning ds right term.text)
        (place_of (template_names (terms ds) [] (reached (terms ds) (extractors_in ds))) term.text) refl (place_of extractors term.text) refl
    extern before (extern_const name ty pos) stands constructors extractors built taken = All-nil Broken

    all_externs : (before xs : List ExternDefinition) → externs_in ds ≡ before ++ xs → (constructors extractors : List Name) →
        AreTermsOf IsConstructorOf before constructors → AreTermsOf IsExtractorOf before extractors →
        All Broken (wrong_externs (known ds) constructors extractors xs)
    all_externs before [] is constructors extractors built taken = All-nil Broken
    all_externs before (x ∷ xs) is constructors extractors built taken =
        All-append Broken (wrong_extern (known ds) constructors extractors x)
        (wrong_externs (known ds) (with_extern_constructor (known ds) constructors x) (with_extern_extractor (known ds) extractors x) xs)
        (extern before x (xs, is) constructors extractors built taken)
        (all_externs (before ++ x ∷ []) xs (step (externs_in ds) before x xs is)
        (with_extern_constructor (known ds) constructors x) (with_extern_extractor (known ds) extractors x)
        (more_constructors (known ds) before x constructors built) (more_extractors (known ds) before x extractors taken))

pub externs_broken : (ds : List Definition) → term_faults ds ≡ [] → All (λ f. IsBrokenExtern ds f.kind f.pos) (extern_faults ds)
externs_broken ds right =
    all_externs ds right [] (externs_in ds) refl [] [] (λ n among. absurd (no_element n among)) (λ n among. absurd (no_element n among))
