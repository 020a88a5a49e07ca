-- What typed rules ask.
use Rattle.std.specs.Prelude.{List, [], ◌∷◌, ◌++◌, map}
use Rattle.isle_check_typing.specs.TypedView.{typed_list_of}
use Rattle.isle_check_rules.specs.TypedRules.{TypedCondition, TypedRuleNode}
use Rattle.isle_check_places.specs.Under.{arguments}
use Rattle.isle_check_places.specs.Places.{Place, present}
use Rattle.isle_check_matchings.specs.Asks.{TermsNode, AskNode, constrains, pattern_asks, list_asks}
use Rattle.isle_check_matchings.specs.Values.{ValueNode, value}

abbrev pub needed : Place → AskNode
needed at = constrains at present

-- the value of a condition's expression matches its pattern
abbrev pub matched : TermsNode → TypedCondition → ValueNode → List AskNode
matched k c v = map needed v.needs ++ pattern_asks k c.pattern v.at

-- conditions one after another, behind what is asked before them
abbrev pub conditions_asks : TermsNode → (known : List AskNode) → List TypedCondition → List AskNode
conditions_asks k known [] = known
conditions_asks k known (c ∷ cs) = conditions_asks k (known ++ matched k c (value k known c.expr)) cs

abbrev pub rule_asks : TermsNode → TypedRuleNode → List AskNode
rule_asks k r = conditions_asks k (list_asks k arguments 0 (typed_list_of r.args) []) r.iflets
