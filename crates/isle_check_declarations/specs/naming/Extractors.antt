-- The errors of internal extractors. `terms` says what a text means as the name of a term.
use Rattle.std.specs.Prelude.{ℕ, List, [], ◌∷◌, ◌++◌, Option, None, Some, if◌then◌else◌}
use Rattle.std.specs.List.{flat_map}
use Rattle.isle_base_source.specs.declared.pos.Pos.{Pos}
use Rattle.isle_ast_names.specs.Tree.{Name}
use Rattle.isle_ast_rules.specs.Roots.{pattern_pos}
use Rattle.isle_ast_rules.specs.TermHeads.{heads}
use Rattle.isle_ast_rules.specs.Tree.{ExtractorDefinition}
use Rattle.isle_ast.specs.Tree.{Definition}
use Rattle.isle_check_environment.specs.Names.{place_of}
use Rattle.isle_check_environment.specs.Parts.{extractors_in}
use Rattle.isle_check_declarations.specs.Faults.{FaultNode, fault, extractor_unknown, template_unknown, extractor_variant, extractor_multi, extractor_again, extractor_before}
use Rattle.isle_check_declarations.specs.Terms.{TermNode, unknown_term, variant_term, declared_term, is_unknown, terms}

-- the extractors up to the first whose term is not known, and this one
abbrev pub reached : (List ℕ → TermNode) → List ExtractorDefinition → List ExtractorDefinition
reached terms [] = []
reached terms (x ∷ xs) = x ∷ (if is_unknown (terms x.term.text) then [] else reached terms xs)

-- the terms of a template are known
abbrev pub unknown_term_at : (List ℕ → TermNode) → (extractor : Name) → Pos × Name → List FaultNode
unknown_term_at terms extractor head =
    if is_unknown (terms head.1.text) then fault (template_unknown head.1 extractor) head.0 ∷ [] else []

abbrev pub unknown_terms : (List ℕ → TermNode) → (extractor : Name) → List (Pos × Name) → List FaultNode
unknown_terms terms extractor heads = flat_map (unknown_term_at terms extractor) heads

-- a term gets an extractor, at its template, if it has none; else both are reported
abbrev pub new_template : Option Pos → ExtractorDefinition → List Name
new_template None x = record { text = x.term.text; pos = pattern_pos x.template } ∷ []
new_template (Some before) x = []

abbrev pub doubled_extractor : Option Pos → ExtractorDefinition → List FaultNode
doubled_extractor None x = []
doubled_extractor (Some before) x = fault (extractor_again x.term) x.pos ∷ fault (extractor_before x.term) before ∷ []

-- the term of an extractor is no variant, is not multi, and has no other extractor
abbrev pub wrong_term : TermNode → (earlier : List Name) → ExtractorDefinition → List FaultNode
wrong_term unknown_term earlier x = []
wrong_term variant_term earlier x = fault (extractor_variant x.term) x.pos ∷ []
wrong_term (declared_term d) earlier x =
    if d.multi then fault (extractor_multi x.term) x.pos ∷ [] else doubled_extractor (place_of earlier x.term.text) x

abbrev pub wrong_extractor : (List ℕ → TermNode) → (earlier : List Name) → ExtractorDefinition → List FaultNode
wrong_extractor terms earlier x =
    if is_unknown (terms x.term.text) then fault (extractor_unknown x.term) x.pos ∷ []
    else unknown_terms terms x.term (heads x.template) ++ wrong_term (terms x.term.text) earlier x

abbrev pub with_template_of : TermNode → (earlier : List Name) → ExtractorDefinition → List Name
with_template_of unknown_term earlier x = earlier
with_template_of variant_term earlier x = earlier
with_template_of (declared_term d) earlier x =
    if d.multi then earlier else earlier ++ new_template (place_of earlier x.term.text) x

abbrev pub with_template : (List ℕ → TermNode) → (earlier : List Name) → ExtractorDefinition → List Name
with_template terms earlier x =
    if is_unknown (terms x.term.text) then earlier else with_template_of (terms x.term.text) earlier x

abbrev pub wrong_extractors : (List ℕ → TermNode) → (earlier : List Name) → List ExtractorDefinition → List FaultNode
wrong_extractors terms earlier [] = []
wrong_extractors terms earlier (x ∷ xs) =
    wrong_extractor terms earlier x ++ wrong_extractors terms (with_template terms earlier x) xs

-- the terms that have an extractor, each at its template
abbrev pub template_names : (List ℕ → TermNode) → (earlier : List Name) → List ExtractorDefinition → List Name
template_names terms earlier [] = earlier
template_names terms earlier (x ∷ xs) = template_names terms (with_template terms earlier x) xs

-- the errors of a program's internal extractors
abbrev pub extractor_faults_by : (List ℕ → TermNode) → List Definition → List FaultNode
extractor_faults_by terms ds = wrong_extractors terms [] (reached terms (extractors_in ds))

abbrev pub extractor_faults : List Definition → List FaultNode
extractor_faults ds = extractor_faults_by (terms ds) ds
