-- What typed rules match.
use Rattle.std.specs.Prelude.{List, [], ◌∷◌, Bool, ◌&&◌, not, map}
use Rattle.std.specs.List.{flat_map, list_any}
use Rattle.isle_check_rules.specs.TypedRules.{TypedRuleNode}
use Rattle.isle_check_rules.specs.Warnings.{multi_by, terms_in_patterns}
use Rattle.isle_check_places.specs.Places.{ConstrainedNode}
use Rattle.isle_check_places.specs.Clashes.{clashes_after}
use Rattle.isle_check_places.specs.Settling.{EqualityNode, constrained, equality, most_sweeps, settle}
use Rattle.isle_check_overlaps.specs.Faults.{ComparisonNode, comparison_of}
use Rattle.isle_check_overlaps.specs.Matchings.{MatchingNode}
use Rattle.isle_check_matchings.specs.Asks.{TermsNode, AskNode, constrains, binds, equals}
use Rattle.isle_check_matchings.specs.RuleAsks.{rule_asks}
use Rattle.isle_check_matchings.specs.Values.{variable_value}

abbrev pub constraint_of : AskNode → List ConstrainedNode
constraint_of (constrains at c) = constrained at c ∷ []
constraint_of (binds _ _ _) = []
constraint_of (equals _ _) = []

abbrev pub constraints_of : List AskNode → List ConstrainedNode
constraints_of asks = flat_map constraint_of asks

abbrev pub equality_of : (known : List AskNode) → AskNode → List EqualityNode
equality_of known (constrains _ _) = []
equality_of known (binds _ _ _) = []
equality_of known (equals x at) = equality at (variable_value known x).at ∷ []

abbrev pub equalities_of : List AskNode → List EqualityNode
equalities_of asks = flat_map (equality_of asks) asks

-- a multi extractor stands in a pattern of a rule whose term is not multi
abbrev pub has_several : TermsNode → TypedRuleNode → Bool
has_several k r =
    not (multi_by (k.terms r.term)) && list_any (λ f. multi_by (k.terms f)) (terms_in_patterns r)

abbrev pub matching_of : TermsNode → TypedRuleNode → List AskNode → MatchingNode
matching_of k r asks =
    record {
      term = r.term;
      is_multi = multi_by (k.terms r.term);
      has_several = has_several k r;
      prio = r.prio;
      pos = r.pos;
      clashes = clashes_after [] (constraints_of asks);
      settled = settle most_sweeps (constraints_of asks) (equalities_of asks);
    }

abbrev pub matching : TermsNode → TypedRuleNode → MatchingNode
matching k r = matching_of k r (rule_asks k r)

abbrev pub matchings : TermsNode → List TypedRuleNode → List MatchingNode
matchings k rs = map (matching k) rs

-- what is found of typed rules
abbrev pub rule_overlaps : TermsNode → List TypedRuleNode → ComparisonNode
rule_overlaps k rs = comparison_of k.terms (matchings k rs)
