-- What rules match, rule by rule, and the terms of a program.
use Rattle.std.proofs.Common.{◌≡◌, ℕ, suc, ◌+◌, ◌<◌, List, [], ◌∷◌, ◌++◌, length, map, drop, get_or, is_some, Bool, true, false, not, ◌&&◌, ◌||◌, ◌==◌, refl, sym, ap, ◌∙◌, arith, eqb-true, append_assoc, add-one, drop-cons, if◌then◌else◌}
use Rattle.std.proofs.lemmas.List.{map-append}
use Rattle.std.specs.List.{filter, flat_map, list_any}
use Rattle.std.specs.HashMap.{get_by_text}
use Rattle.isle_base_source.specs.declared.pos.Pos.{Pos}
use Rattle.isle_ast.specs.Tree.{Definition}
use Rattle.isle_check_environment.specs.ByText.{ByText}
use Rattle.isle_check_environment.specs.Names.{Knows}
use Rattle.isle_check_environment.specs.signatures.Environment.{EnvironmentNode}
use Rattle.isle_check_rules.specs.declared.typed.TypedRule.{TypedRule}
use Rattle.isle_check_rules.specs.TypedRules.{TypedRuleNode}
use Rattle.isle_check_rules.specs.Views.{typed_rule_of, typed_rules_of}
use Rattle.isle_check_rules.specs.Warnings.{WarningNode, is_multi, multi_extractors, multi_by, multi_warning, terms_in_patterns}
use Rattle.isle_check_places.specs.Clashes.{clashes_after}
use Rattle.isle_check_places.specs.Settling.{most_sweeps, settle}
use Rattle.isle_check_overlaps.specs.declared.matching.Matching.{Matching}
use Rattle.isle_check_overlaps.specs.Matchings.{MatchingNode}
use Rattle.isle_check_overlaps.specs.Views as seen
use Rattle.isle_check_matchings.specs.Asks.{TermsNode, AskNode}
use Rattle.isle_check_matchings.specs.Infallible.{infallible_name, program_terms}
use Rattle.isle_check_matchings.specs.Matchings.{constraints_of, equalities_of, has_several, matching_of}

pub matchings_step : (f : TypedRuleNode → MatchingNode) (made after : List Matching) (m : Matching) (rules : List TypedRule) (i : ℕ) (r : TypedRule) (whole : List MatchingNode) →
    i < length rules → r ≡ get_or rules i r → seen.matching_of m ≡ f (typed_rule_of r) → after ≡ made ++ m ∷ [] →
    seen.matchings_of made ++ map f (typed_rules_of (drop i rules)) ≡ whole → seen.matchings_of after ++ map f (typed_rules_of (drop (i + 1) rules)) ≡ whole
matchings_step f made after m rules i r whole less is m_is after_is so_far =
    let first : drop i rules ≡ r ∷ drop (suc i) rules = drop-cons rules i r less ∙ ap (λ x. x ∷ drop (suc i) rules) (sym is) in
    let told : seen.matchings_of after ≡ seen.matchings_of made ++ seen.matching_of m ∷ [] = ap seen.matchings_of after_is ∙ map-append seen.matching_of made (m ∷ []) in
    ap (λ n. seen.matchings_of after ++ map f (typed_rules_of (drop n rules))) (add-one i)
    ∙ (ap (λ a. a ++ map f (typed_rules_of (drop (suc i) rules))) told
    ∙ (append_assoc (seen.matchings_of made) (seen.matching_of m ∷ []) (map f (typed_rules_of (drop (suc i) rules)))
    ∙ (ap (λ x. seen.matchings_of made ++ x ∷ map f (typed_rules_of (drop (suc i) rules))) m_is
    ∙ (ap (λ xs. seen.matchings_of made ++ map f (typed_rules_of xs)) (sym first)
    ∙ so_far))))

pub matching_parts : (k : TermsNode) (r : TypedRuleNode) (asks : List AskNode) (m : MatchingNode) →
    m.term ≡ r.term → m.is_multi ≡ multi_by (k.terms r.term) → m.has_several ≡ has_several k r → m.prio ≡ r.prio → m.pos ≡ r.pos → m.clashes ≡ clashes_after [] (constraints_of asks) →
    m.settled ≡ settle most_sweeps (constraints_of asks) (equalities_of asks) → m ≡ matching_of k r asks
matching_parts k r asks m term multi several prio pos clashes settled =
    λ i. record { term = term i; is_multi = multi i; has_several = several i; prio = prio i; pos = pos i; clashes = clashes i; settled = settled i }

abbrev terms_by : EnvironmentNode → ByText Pos → TermsNode
terms_by env names = record { terms = env.terms; infallible = λ text. is_some (get_by_text names text) }

pub terms_known : (env : EnvironmentNode) (ds : List Definition) (names : ByText Pos) → Knows names (flat_map infallible_name ds) → terms_by env names ≡ program_terms env ds
terms_known env ds names known = λ i. record { terms = env.terms; infallible = λ text. is_some (known text i) }

-- some are found exactly if there is one
not_none : (n : ℕ) (r : Bool) → (suc n == 0) ≡ r → not r ≡ true
not_none n true h = absurd (omega (arith, eqb-true (suc n) 0 h))
not_none n false h = refl

one_filtered : (p : List ℕ → Bool) (warning : List ℕ → WarningNode) (f : List ℕ) (fs : List (List ℕ)) (r : Bool) →
    not (length (map warning (filter p fs) ++ []) == 0) ≡ list_any p fs →
    not (length (map warning (if r then f ∷ filter p fs else filter p fs) ++ []) == 0) ≡ (r || list_any p fs)
one_filtered p warning f fs true rest = not_none (length (map warning (filter p fs) ++ [])) (suc (length (map warning (filter p fs) ++ [])) == 0) refl
one_filtered p warning f fs false rest = rest

some_filtered : (p : List ℕ → Bool) (warning : List ℕ → WarningNode) (fs : List (List ℕ)) → not (length (map warning (filter p fs) ++ []) == 0) ≡ list_any p fs
some_filtered p warning [] = refl
some_filtered p warning (f ∷ fs) = one_filtered p warning f fs (p f) (some_filtered p warning fs)

several_by : (env : EnvironmentNode) (r : TypedRuleNode) (multi : Bool) →
    not (length ((if multi then [] else map (multi_warning r.pos) (filter (is_multi env) (terms_in_patterns r))) ++ []) == 0)
    ≡ (not multi && list_any (is_multi env) (terms_in_patterns r))
several_by env r true = refl
several_by env r false = some_filtered (is_multi env) (multi_warning r.pos) (terms_in_patterns r)

pub several_found : (k : TermsNode) (env : EnvironmentNode) (r : TypedRuleNode) → k.terms ≡ env.terms →
    not (length (multi_extractors env (r ∷ [])) == 0) ≡ has_several k r
several_found k env r same =
    several_by env r (is_multi env r.term)
    ∙ sym (ap (λ t. not (multi_by (t r.term)) && list_any (λ f. multi_by (t f)) (terms_in_patterns r)) same)
