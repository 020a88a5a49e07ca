-- Each error of internal extractors is broken, in a program whose terms are right.
use Rattle.std.proofs.Common.{◌≡◌, ℕ, List, [], ◌∷◌, ◌++◌, Bool, true, false, Option, None, Some, Contains, refl, ap, sym, ◌∙◌, subst, append_assoc, if◌then◌else◌}
use Rattle.std.specs.List.{All}
use Rattle.std.proofs.lemmas.List.Elements.{All-append, All-nil, Contains-append_cases, Contains-append_left, Contains-push}
use Rattle.isle_base_source.specs.declared.pos.Pos.{Pos}
use Rattle.isle_ast_names.specs.Tree.{Name}
use Rattle.isle_ast_rules.specs.Roots.{pattern_pos}
use Rattle.isle_ast_rules.specs.TermHeads.{heads}
use Rattle.isle_ast_rules.specs.Tree.{ExtractorDefinition}
use Rattle.isle_ast.specs.Tree.{Definition}
use Rattle.isle_check_declarations.specs.Faults as kinds
use Rattle.isle_check_declarations.specs.Faults.{FaultNode, fault}
use Rattle.isle_check_declarations.specs.TermFaults.{term_faults}
use Rattle.isle_check_declarations.specs.Terms.{TermNode, declared_term, is_unknown, terms, unknown_term, variant_term}
use Rattle.isle_check_environment.specs.Names.{place_of}
use Rattle.isle_check_environment.specs.Parts.{extractors_in}
use Rattle.isle_check_declarations.specs.naming.Extractors.{doubled_extractor, extractor_faults, new_template, reached, template_names, unknown_term_at, unknown_terms, with_template, with_template_of, wrong_extractor, wrong_extractors, wrong_term}
use Rattle.isle_check_laws.specs.BrokenExtractors as broken
use Rattle.isle_check_laws.specs.BrokenExtractors.{IsBrokenExtractor}
use Rattle.isle_check_laws.specs.Named.{StandsBehind}
use Rattle.isle_check_laws.proofs.Lists.{all_parts, choice, either, no_element, one, only, stands_in, step, two}
use Rattle.isle_check_laws.proofs.Meanings.{Means, meaning, means_unknown}
use Rattle.isle_check_laws.proofs.Names.{found}

-- the extractors that are reached are the first ones

front_by : (x : ExtractorDefinition) (xs reached : List ExtractorDefinition) → (rest : List ExtractorDefinition) × (xs ≡ reached ++ rest) →
    (b : Bool) → (rest : List ExtractorDefinition) × (x ∷ xs ≡ (x ∷ (if b then [] else reached)) ++ rest)
front_by x xs reached front true = (xs, refl)
front_by x xs reached front false = (front.0, ap (λ ys. x ∷ ys) front.1)

pub reached_front : (terms : List ℕ → TermNode) (xs : List ExtractorDefinition) → (rest : List ExtractorDefinition) × (xs ≡ reached terms xs ++ rest)
reached_front terms [] = ([], refl)
reached_front terms (x ∷ xs) = front_by x xs (reached terms xs) (reached_front terms xs) (is_unknown (terms x.term.text))

-- the terms that have a template

-- each of these names is that of one of these extractors, at its template
abbrev pub AreTemplates : List ExtractorDefinition → List Name → Type 0
AreTemplates before names =
    (n : Name) → Contains names n → (x : ExtractorDefinition) × Contains before x × (x.term.text ≡ n.text) × (pattern_pos x.template ≡ n.pos)

module _ (before : List ExtractorDefinition) (earlier : List Name) (are : AreTemplates before earlier) (x : ExtractorDefinition) where
  kept : AreTemplates (before ++ x ∷ []) earlier
  kept n among = let at = are n among in (at.0, Contains-append_left before (x ∷ []) at.0 at.1, at.2, at.3)

  template_is : (o : Option Pos) (n : Name) → Contains (new_template o x) n → (x.term.text ≡ n.text) × (pattern_pos x.template ≡ n.pos)
  template_is None n among =
      let same = only (record { text = x.term.text; pos = pattern_pos x.template }) n among in
      (ap (λ (m : Name). m.text) same, ap (λ (m : Name). m.pos) same)
  template_is (Some place) n among = absurd (no_element n among)

  more : (o : Option Pos) → AreTemplates (before ++ x ∷ []) (earlier ++ new_template o x)
  more o n among =
      either (kept n) (λ new. let is = template_is o n new in (x, Contains-push before x, is.0, is.1)) (Contains-append_cases earlier (new_template o x) n among)

  unless_multi : (b : Bool) (o : Option Pos) → AreTemplates (before ++ x ∷ []) (if b then earlier else earlier ++ new_template o x)
  unless_multi true o = kept
  unless_multi false o = more o

  by_term : (node : TermNode) → AreTemplates (before ++ x ∷ []) (if is_unknown node then earlier else with_template_of node earlier x)
  by_term unknown_term = kept
  by_term variant_term = kept
  by_term (declared_term d) = unless_multi d.multi (place_of earlier x.term.text)

pub all_templates : (terms : List ℕ → TermNode) (before xs : List ExtractorDefinition) (earlier : List Name) → AreTemplates before earlier →
    AreTemplates (before ++ xs) (template_names terms earlier xs)
all_templates terms before [] earlier are n among = let at = are n among in (at.0, Contains-append_left before [] at.0 at.1, at.2, at.3)
all_templates terms before (x ∷ xs) earlier are n among =
    let at = all_templates terms (before ++ x ∷ []) xs (with_template terms earlier x) (by_term before earlier are x (terms x.term.text)) n among in
    (at.0, subst (λ ys. Contains ys at.0) (append_assoc before (x ∷ []) xs) at.1, at.2, at.3)

-- errors

module _ (ds : List Definition) where
  abbrev Broken : FaultNode → Type 0
  Broken f = IsBrokenExtractor ds f.kind f.pos

  doubled : (before : List ExtractorDefinition) (x : ExtractorDefinition) → StandsBehind (extractors_in ds) before x →
      (earlier : List Name) → AreTemplates before earlier → (o : Option Pos) → place_of earlier x.term.text ≡ o → All Broken (doubled_extractor o x)
  doubled before x stands earlier are None is = All-nil Broken
  doubled before x stands earlier are (Some place) is =
      let at = found earlier x.term.text place is in
      let first = are at.0 at.1 in
      two Broken (fault (kinds.extractor_again x.term) x.pos) (fault (kinds.extractor_before x.term) place)
      (broken.extractor_again x before stands (first.0, first.1, first.2 ∙ at.2))
      (subst (λ p. IsBrokenExtractor ds (kinds.extractor_before x.term) p) (first.3 ∙ at.3)
      (broken.extractor_before x first.0 before stands first.1 (first.2 ∙ at.2)))

  of_term : (before : List ExtractorDefinition) (x : ExtractorDefinition) → StandsBehind (extractors_in ds) before x →
      (earlier : List Name) → AreTemplates before earlier → (node : TermNode) → Means ds x.term.text node → All Broken (wrong_term node earlier x)
  of_term before x stands earlier are unknown_term means = All-nil Broken
  of_term before x stands earlier are variant_term means =
      one Broken (fault (kinds.extractor_variant x.term) x.pos) (broken.extractor_variant x (stands_in (extractors_in ds) before x stands) means)
  of_term before x stands earlier are (declared_term d) means =
      choice Broken d.multi (fault (kinds.extractor_multi x.term) x.pos ∷ []) (doubled_extractor (place_of earlier x.term.text) x)
      (λ multi. one Broken (fault (kinds.extractor_multi x.term) x.pos)
      (broken.extractor_multi x d (stands_in (extractors_in ds) before x stands) means.0 means.1 multi))
      (λ _. doubled before x stands earlier are (place_of earlier x.term.text) refl)

  module _ (right : term_faults ds ≡ []) where
    heads_of : (x : ExtractorDefinition) → Contains (extractors_in ds) x → (head : Pos × Name) → Contains (heads x.template) head →
        All Broken (unknown_term_at (terms ds) x.term head)
    heads_of x among head inside =
        choice Broken (is_unknown (terms ds head.1.text)) (fault (kinds.template_unknown head.1 x.term) head.0 ∷ []) []
        (λ unknown. one Broken (fault (kinds.template_unknown head.1 x.term) head.0)
        (broken.template_unknown x head.0 head.1 among inside
        (means_unknown ds head.1.text (terms ds head.1.text) (meaning ds right head.1.text) unknown)))
        (λ _. All-nil Broken)

    extractor : (before : List ExtractorDefinition) (x : ExtractorDefinition) → StandsBehind (extractors_in ds) before x →
        (earlier : List Name) → AreTemplates before earlier → All Broken (wrong_extractor (terms ds) earlier x)
    extractor before x stands earlier are =
        let among = stands_in (extractors_in ds) before x stands in
        choice Broken (is_unknown (terms ds x.term.text)) (fault (kinds.extractor_unknown x.term) x.pos ∷ [])
        (unknown_terms (terms ds) x.term (heads x.template) ++ wrong_term (terms ds x.term.text) earlier x)
        (λ unknown. one Broken (fault (kinds.extractor_unknown x.term) x.pos)
        (broken.extractor_unknown x among (means_unknown ds x.term.text (terms ds x.term.text) (meaning ds right x.term.text) unknown)))
        (λ _. All-append Broken (unknown_terms (terms ds) x.term (heads x.template)) (wrong_term (terms ds x.term.text) earlier x)
        (all_parts Broken (unknown_term_at (terms ds) x.term) (heads x.template) (heads_of x among))
        (of_term before x stands earlier are (terms ds x.term.text) (meaning ds right x.term.text)))

    all_extractors : (rest before xs : List ExtractorDefinition) → extractors_in ds ≡ before ++ (xs ++ rest) →
        (earlier : List Name) → AreTemplates before earlier → All Broken (wrong_extractors (terms ds) earlier xs)
    all_extractors rest before [] is earlier are = All-nil Broken
    all_extractors rest before (x ∷ xs) is earlier are =
        All-append Broken (wrong_extractor (terms ds) earlier x) (wrong_extractors (terms ds) (with_template (terms ds) earlier x) xs)
        (extractor before x (xs ++ rest, is) earlier are)
        (all_extractors rest (before ++ x ∷ []) xs (step (extractors_in ds) before x (xs ++ rest) is) (with_template (terms ds) earlier x)
        (by_term before earlier are x (terms ds x.term.text)))

pub extractors_broken : (ds : List Definition) → term_faults ds ≡ [] → All (λ f. IsBrokenExtractor ds f.kind f.pos) (extractor_faults ds)
extractors_broken ds right =
    let front = reached_front (terms ds) (extractors_in ds) in
    all_extractors ds right front.0 [] (reached (terms ds) (extractors_in ds)) front.1 [] (λ n among. absurd (no_element n among))

-- the templates of a program are those of its extractors
pub templates_are : (ds : List Definition) → AreTemplates (extractors_in ds) (template_names (terms ds) [] (reached (terms ds) (extractors_in ds)))
templates_are ds n among =
    let front = reached_front (terms ds) (extractors_in ds) in
    let at = all_templates (terms ds) [] (reached (terms ds) (extractors_in ds)) [] (λ m inside. absurd (no_element m inside)) n among in
    (at.0, subst (λ ys. Contains ys at.0) (sym front.1) (Contains-append_left (reached (terms ds) (extractors_in ds)) front.0 at.0 at.1), at.2, at.3)
