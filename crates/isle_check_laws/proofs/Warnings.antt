-- Warnings are no errors.
use Rattle.std.proofs.Common.{◌≡◌, ◌==◌, List, [], ◌∷◌, ◌++◌, false, Option, None, Some, map, length, refl}
use Rattle.std.specs.List.{All}
use Rattle.std.proofs.lemmas.List.Elements.{All-append, All-map, All-nil}
use Rattle.isle_base_source.specs.declared.pos.Pos.{Pos}
use Rattle.isle_ast_names.specs.Tree.{Name}
use Rattle.isle_ast_rules.specs.Tree.{ExtractorDefinition}
use Rattle.isle_ast.specs.Tree.{Definition}
use Rattle.isle_check_recursion.specs.Conversions.{endless_conversions}
use Rattle.isle_check_environment.specs.Names.{has}
use Rattle.isle_check_environment.specs.Parts.{ConstantNode, constants_in, extractors_in, rules_in}
use Rattle.isle_check_places.specs.Settling.{SettledNode, endless, settled, unequal}
use Rattle.isle_check_environment.specs.signatures.Environment.{EnvironmentNode}
use Rattle.isle_check_environment.specs.signatures.Signatures.{TermNode}
use Rattle.isle_check_rules.specs.TypedRules.{TypedRuleNode}
use Rattle.isle_check_rules.specs.Warnings as warned
use Rattle.isle_check_overlaps.specs.Candidates.{CandidateNode, candidates, hides_with_equals}
use Rattle.isle_check_overlaps.specs.Faults.{FaultNode, endless_by, endless_rules, equal_shadow_at, equal_shadows, hidden_by, shadow_at, shadows_with_equals}
use Rattle.isle_check_overlaps.specs.Matchings.{MatchingNode}
use Rattle.isle_check_matchings.specs.Asks.{TermsNode}
use Rattle.isle_check_matchings.specs.Matchings.{matchings, rule_overlaps}
use Rattle.isle_check_core.specs.Findings.{FindingNode, constant_again, doubled_constant, doubled_constants, endless_converters, finding, is_error, is_overlap_error, of_converter, of_overlap, of_warning, parameter_count, warnings, wrong_count, wrong_counts}
use Rattle.isle_check_laws.proofs.Lists.{all_parts, choice, one}
use Rattle.isle_check_laws.proofs.Elements.{everyone}
use Rattle.isle_check_laws.proofs.Groups.{AreNoErrors}

abbrev Quiet : FindingNode → Type 0
Quiet f = is_error f.kind ≡ false

doubled : (earlier : List Name) (cs : List ConstantNode) → AreNoErrors (doubled_constants earlier cs)
doubled earlier [] = All-nil Quiet
doubled earlier (c ∷ cs) =
    All-append Quiet (doubled_constant earlier c) (doubled_constants (earlier ++ c.name ∷ []) cs)
    (choice Quiet (has earlier c.name.text) (finding (constant_again c.name) c.pos ∷ []) [] (λ _. one Quiet (finding (constant_again c.name) c.pos) refl)
    (λ _. All-nil Quiet))
    (doubled (earlier ++ c.name ∷ []) cs)

count : (o : Option TermNode) (x : ExtractorDefinition) → AreNoErrors (wrong_count o x)
count None x = All-nil Quiet
count (Some t) x =
    choice Quiet (length x.args == length t.args) [] (finding (parameter_count x.term (length x.args) (length t.args)) x.pos ∷ []) (λ _. All-nil Quiet)
    (λ _. one Quiet (finding (parameter_count x.term (length x.args) (length t.args)) x.pos) refl)

counts : (env : EnvironmentNode) (xs : List ExtractorDefinition) → AreNoErrors (wrong_counts env xs)
counts env xs = all_parts Quiet (λ x. wrong_count (env.terms x.term.text) x) xs (λ x in_xs. count (env.terms x.term.text) x)

pub converters_quiet : (env : EnvironmentNode) (ds : List Definition) → AreNoErrors (endless_converters env ds)
converters_quiet env ds =
    All-map Quiet of_converter (endless_conversions env.terms ds)
    (everyone (λ c. Quiet (of_converter c)) (endless_conversions env.terms ds) (λ c in_cs. refl))

told : (ws : List warned.WarningNode) → AreNoErrors (map of_warning ws)
told ws = All-map Quiet of_warning ws (everyone (λ w. Quiet (of_warning w)) ws (λ w in_ws. refl))

pub warnings_quiet : (env : EnvironmentNode) (rules : List TypedRuleNode) (ds : List Definition) → AreNoErrors (warnings env rules ds)
warnings_quiet env rules ds =
    All-append Quiet (doubled_constants [] (constants_in ds)) _ (doubled [] (constants_in ds))
    (All-append Quiet (wrong_counts env (extractors_in ds)) _ (counts env (extractors_in ds))
    (All-append Quiet (endless_converters env ds) _ (converters_quiet env ds)
    (All-append Quiet (map of_warning (warned.conditions_without_constructor env (rules_in ds))) (map of_warning (warned.multi_extractors env rules))
    (told (warned.conditions_without_constructor env (rules_in ds))) (told (warned.multi_extractors env rules)))))

-- of rules beside one another
abbrev IsWarning : FaultNode → Type 0
IsWarning f = is_overlap_error f.kind ≡ false

endless_one : (place : Pos) (s : SettledNode) → All IsWarning (endless_by place s)
endless_one place (settled _ _) = All-nil IsWarning
endless_one place unequal = All-nil IsWarning
endless_one place endless = one IsWarning _ refl

shadow : (c : CandidateNode) (hidden : List Pos) → All IsWarning (shadow_at shadows_with_equals c hidden)
shadow c [] = All-nil IsWarning
shadow c (p ∷ ps) = one IsWarning _ refl

pub overlap_warnings_quiet : (k : TermsNode) (rs : List TypedRuleNode) → AreNoErrors (map of_overlap (rule_overlaps k rs).warnings)
overlap_warnings_quiet k rs =
    let ms = matchings k rs in
    let cs = candidates 0 ms in
    All-map Quiet of_overlap (rule_overlaps k rs).warnings
    (All-append IsWarning (endless_rules ms) (equal_shadows cs)
    (all_parts IsWarning (λ (m : MatchingNode). endless_by m.pos m.settled) ms (λ m in_ms. endless_one m.pos m.settled))
    (all_parts IsWarning (equal_shadow_at cs) cs (λ c in_cs. shadow c (hidden_by hides_with_equals c cs))))
