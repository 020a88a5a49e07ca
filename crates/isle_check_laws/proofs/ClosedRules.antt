-- A typed rule is closed, if none of its terms is multi.
use Rattle.std.proofs.Common.{◌≡◌, ℕ, List, [], ◌++◌, None, ap}
use Rattle.isle_ast_rules.specs.Tree.{RuleDefinition, Condition}
use Rattle.isle_check_environment.specs.signatures.Environment.{EnvironmentNode}
use Rattle.isle_check_typing.specs.Progress.{VariableNode}
use Rattle.isle_check_typing.specs.TypedView.{typed_list_of}
use Rattle.isle_check_typing.specs.declared.expressions.flags.Flags.{Flags}
use Rattle.isle_check_typing.specs.expressions.TypedExpressions.{type_of_expression}
use Rattle.isle_check_rules.specs.RuleTypes.{condition_flags}
use Rattle.isle_check_rules.specs.TypedRules.{TypedCondition, TypedRuleNode}
use Rattle.isle_check_laws.specs.IsTypedRule.{AreConditions, no_condition, one_condition, IsTypedRule, rewrites}
use Rattle.isle_check_matchings.specs.Asks.{TermsNode}
use Rattle.isle_check_laws.specs.Closed.{IsClosed, AreClosedConditions, list_variables, pattern_variables}
use Rattle.isle_check_laws.specs.UsedTerms.{AreSingle, conditions_terms, expression_terms, rule_terms}
use Rattle.isle_check_rules.specs.Warnings.{list_terms_in, terms_in}
use Rattle.isle_check_laws.proofs.ClosedExpressions.{expression_closed}
use Rattle.isle_check_laws.proofs.ClosedPatterns.{single_first, single_second, pattern_closed, arguments_closed}
use Rattle.isle_check_laws.proofs.SeenVariables.{Seen, seen_behind}

module _ (k : TermsNode) (env : EnvironmentNode) (known : (f : List ℕ) → k.terms f ≡ env.terms f) where
  conditions_closed : (flags : Flags) (cs : List Condition) (bound : List VariableNode) (typed : List TypedCondition) (after : List VariableNode) →
      AreConditions env flags cs bound typed after → (before : List ℕ) → Seen bound before → AreSingle k (conditions_terms typed) → AreClosedConditions k before typed
  conditions_closed flags _ _ _ _ no_condition before s single = tt
  conditions_closed flags _ _ _ _ (one_condition {c} {cs} {bound} {middle} {behind} {after} {pattern} {expr} {rest} d p ds) before s single =
      let es = expression_terms expr in
      let ps = terms_in pattern in
      let fs = conditions_terms rest in
      let value = expression_closed k env known flags c.expr None bound expr middle d before s (single_first k es (ps ++ fs) single) in
      let tail = single_second k es (ps ++ fs) single in
      let matched = pattern_closed k env known c.pattern (type_of_expression expr) middle pattern behind p before (seen_behind bound middle before value.1 s) (single_first k ps fs tail) in
      (value.0, (matched.0, conditions_closed flags cs behind rest after ds (before ++ pattern_variables pattern) matched.1 (single_second k ps fs tail)))

  pub rule_closed : (r : RuleDefinition) (typed : TypedRuleNode) → IsTypedRule env r typed → AreSingle k (rule_terms typed) → IsClosed k typed
  rule_closed _ _ (rewrites {r} {args} {t} {bound} {middle} {left} {iflets} head found ds cs d prio) single =
      let fs = list_terms_in (typed_list_of left) in
      let gs = conditions_terms iflets in
      let first = arguments_closed k env known args t.args [] left bound ds [] tt (single_first k fs gs single) in
      (first.0, conditions_closed (condition_flags t) r.iflets bound iflets middle cs (list_variables (typed_list_of left)) first.1 (single_second k fs gs single))

pub closed_law : (env : EnvironmentNode) (k : TermsNode) (r : RuleDefinition) (typed : TypedRuleNode) → k.terms ≡ env.terms → IsTypedRule env r typed →
    AreSingle k (rule_terms typed) → IsClosed k typed
closed_law env k r typed same d single = rule_closed k env (λ f. ap (λ terms. terms f) same) r typed d single
