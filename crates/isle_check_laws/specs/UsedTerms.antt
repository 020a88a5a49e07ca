-- The terms that a rule uses in its arguments and its conditions.
use Rattle.std.specs.Prelude.{◌≡◌, ℕ, List, [], ◌∷◌, ◌++◌, true, not}
use Rattle.std.specs.List.{list_all}
use Rattle.isle_check_typing.specs.TypedView.{typed_list_of}
use Rattle.isle_check_typing.specs.expressions.TypedExpressions.{TypedExpressionNode, typed_var_expression, typed_bool_expression, typed_int_expression, typed_const_expression, typed_term_expression, typed_let_expression, TypedExpressionList, no_typed_expression, more_typed_expression, TypedLetList, no_typed_let, more_typed_let}
use Rattle.isle_check_rules.specs.TypedRules.{TypedCondition, TypedRuleNode}
use Rattle.isle_check_rules.specs.Warnings.{list_terms_in, multi_by, terms_in}
use Rattle.isle_check_matchings.specs.Asks.{TermsNode}

-- the terms of an expression
abbrev mutual
  pub expression_terms : TypedExpressionNode → List (List ℕ)
  expression_terms (typed_var_expression _ _) = []
  expression_terms (typed_bool_expression _ _) = []
  expression_terms (typed_int_expression _ _) = []
  expression_terms (typed_const_expression _ _) = []
  expression_terms (typed_term_expression f _ es) = f ∷ expressions_terms es
  expression_terms (typed_let_expression _ ds e) = lets_terms ds ++ expression_terms e

  pub expressions_terms : TypedExpressionList → List (List ℕ)
  expressions_terms no_typed_expression = []
  expressions_terms (more_typed_expression e es) = expression_terms e ++ expressions_terms es

  pub lets_terms : TypedLetList → List (List ℕ)
  lets_terms no_typed_let = []
  lets_terms (more_typed_let _ e ds) = expression_terms e ++ lets_terms ds

-- the terms of conditions
abbrev pub conditions_terms : List TypedCondition → List (List ℕ)
conditions_terms [] = []
conditions_terms (c ∷ cs) = expression_terms c.expr ++ (terms_in c.pattern ++ conditions_terms cs)

-- those of a rule, without its right side
abbrev pub rule_terms : TypedRuleNode → List (List ℕ)
rule_terms r = list_terms_in (typed_list_of r.args) ++ conditions_terms r.iflets

-- none of these terms is multi
abbrev pub AreSingle : TermsNode → List (List ℕ) → Type 0
AreSingle k fs = list_all (λ f. not (multi_by (k.terms f))) fs ≡ true
