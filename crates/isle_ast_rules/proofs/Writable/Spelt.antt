-- Spelt patterns, expressions, rules and extractors are writable.
use Rattle.std.proofs.Common.{◌≡◌, ℤ, List, true, false, Option, None, Some, IfSome, codes, inl, inr, sym, ap, ◌∙◌, subst}
use Rattle.std.proofs.lemmas.Bool.{false≢true, not-true, and_parts}
use Rattle.isle_base.specs.Place.{Placed}
use Rattle.isle_ast_names.specs.Numbers.{IsSigned, SpellsPriority}
use Rattle.isle_ast_names.specs.Tree.{Name}
use Rattle.isle_ast_rules.specs.Tree.{PatternNode, var_pattern, bind_pattern, bool_pattern, int_pattern, constant_pattern, term_pattern, wildcard_pattern, and_pattern, macro_arg_pattern, PatternList, no_pattern, more_pattern, Expression, term_expression, var_expression, bool_expression, int_expression, constant_expression, let_expression, ExpressionList, no_expression, more_expression, LetList, no_let, more_let, Condition, RuleDefinition, ExtractorDefinition}
use Rattle.isle_ast_names.specs.Words.{SpellsOptional, is_constant}
use Rattle.isle_ast_rules.specs.ExpressionGrammar.{is_variable_of_expressions, SpellsExpression, SpellsExpressions, SpellsLets}
use Rattle.isle_ast_rules.specs.PatternGrammar.{is_variable_of_patterns, SpellsPattern, SpellsPatterns}
use Rattle.isle_ast_rules.specs.RuleGrammar.{SpellsCondition, SpellsRule, SpellsExtractor}
use Rattle.isle_ast_rules.specs.Writable.{HasNoDollar, IsPatternVariable, IsWritablePattern, AreWritablePatterns, IsExpressionVariable, IsWritableExpression, AreWritableExpressions, AreWritableLets, IsWritableCondition, IsWritableRule, IsWritableExtractor}
use Rattle.isle_ast_names.proofs.SpeltWords.{Each-spelt, names-spelt, differs, no_bool_word, optional_name-spelt}

-- variables

no_dollar : (n : Name) → is_constant n.text ≡ false → HasNoDollar n
no_dollar n h behind e = false≢true (sym h ∙ ap is_constant e)

variable-spelt : (n : Name) → is_variable_of_patterns n.text ≡ true → IsPatternVariable n
variable-spelt n h =
    let first = and_parts _ _ h in
    let second = and_parts _ _ first.0 in
    let third = and_parts _ _ second.0 in
    let words = no_bool_word n (not-true _ first.1) in
    record {
      name = third.0;
      not_wildcard = differs n.text (codes "_") (not-true _ second.1);
      not_true = words.0;
      not_false = words.1;
      not_constant = no_dollar n (not-true _ third.1);
    }

expression_variable-spelt : (n : Name) → is_variable_of_expressions n.text ≡ true → IsExpressionVariable n
expression_variable-spelt n h =
    let first = and_parts _ _ h in
    let second = and_parts _ _ first.0 in
    let words = no_bool_word n (not-true _ first.1) in
    record { name = second.0; not_true = words.0; not_false = words.1; not_constant = no_dollar n (not-true _ second.1) }

-- patterns

mutual
  pub pattern-spelt : (p : PatternNode) (all rest : List Placed) → SpellsPattern p all rest → IsWritablePattern p
  pattern-spelt (var_pattern var _) all rest s = variable-spelt var s.1.0
  pattern-spelt (bind_pattern var subpat _) all rest s = (variable-spelt var s.3.0, pattern-spelt subpat s.2 rest s.5)
  pattern-spelt (bool_pattern _ _) all rest s = tt
  pattern-spelt (int_pattern val _) all rest s = s.1.0
  pattern-spelt (constant_pattern val _) all rest s = s.1.0
  pattern-spelt (term_pattern sym args _) all rest s =
      (s.2.3.1.0, differs sym.text (codes "and") s.0, patterns-spelt args s.2.3.0 s.2.1 s.2.3.2)
  pattern-spelt (wildcard_pattern _) all rest s = tt
  pattern-spelt (and_pattern subpats _) all rest s = patterns-spelt subpats s.1.3.0 s.1.1 s.1.3.2
  pattern-spelt (macro_arg_pattern _ _) all rest s = s

  patterns-spelt : (ps : PatternList) (all rest : List Placed) → SpellsPatterns ps all rest → AreWritablePatterns ps
  patterns-spelt no_pattern all rest s = tt
  patterns-spelt (more_pattern p ps) all rest s = (pattern-spelt p all s.0 s.1, patterns-spelt ps s.0 rest s.2)

-- expressions

mutual
  pub expression-spelt : (x : Expression) (all rest : List Placed) → SpellsExpression x all rest → IsWritableExpression x
  expression-spelt (term_expression sym args _) all rest s =
      (s.2.3.1.0, differs sym.text (codes "let") s.0, expressions-spelt args s.2.3.0 s.2.1 s.2.3.2)
  expression-spelt (var_expression name _) all rest s = expression_variable-spelt name s.1.0
  expression-spelt (bool_expression _ _) all rest s = tt
  expression-spelt (int_expression val _) all rest s = s.1.0
  expression-spelt (constant_expression val _) all rest s = s.1.0
  expression-spelt (let_expression defs body _) all rest s =
      let parts = s.1.3.2 in
      (lets-spelt defs parts.1.0 parts.1.1 parts.1.3, expression-spelt body parts.0 s.1.1 parts.2)

  expressions-spelt : (xs : ExpressionList) (all rest : List Placed) → SpellsExpressions xs all rest → AreWritableExpressions xs
  expressions-spelt no_expression all rest s = tt
  expressions-spelt (more_expression x xs) all rest s = (expression-spelt x all s.0 s.1, expressions-spelt xs s.0 rest s.2)

  lets-spelt : (ds : LetList) (all rest : List Placed) → SpellsLets ds all rest → AreWritableLets ds
  lets-spelt no_let all rest s = tt
  lets-spelt (more_let var ty val _ lets) all rest s =
      let whole = s.1.1 in
      (whole.3.2.0, whole.3.3.0, expression-spelt val whole.3.1 whole.1 whole.3.4, lets-spelt lets s.0 rest s.2)

-- conditions

pub condition-spelt : (c : Condition) (all rest : List Placed) → SpellsCondition c all rest → IsWritableCondition c
condition-spelt c all rest s =
    elim s [
      | inl whole ↦ (
        pattern-spelt c.pattern whole.3.0 whole.3.2.1.0 whole.3.2.1.1,
        expression-spelt c.expr whole.3.2.1.0 whole.1 whole.3.2.1.2,
      )
      | inr whole ↦ (
        subst IsWritablePattern (sym whole.3.2.1.0) tt,
        expression-spelt c.expr whole.3.0 whole.1 whole.3.2.1.1,
      )
    ]

priority-spelt : (o : Option ℤ) (all rest : List Placed) → SpellsOptional SpellsPriority o all rest → IfSome o (IsSigned 63)
priority-spelt None all rest s = tt
priority-spelt (Some n) all rest s = s.0

pub rule-spelt : (r : RuleDefinition) (all rest : List Placed) → SpellsRule r all rest → IsWritableRule r
rule-spelt r all rest s = record {
  name = optional_name-spelt r.name all s.behind_name s.name;
  prio = priority-spelt r.prio s.behind_name s.behind_prio s.prio;
  pattern = pattern-spelt r.pattern s.behind_prio s.behind_pattern s.pattern;
  iflets = Each-spelt IsWritableCondition SpellsCondition condition-spelt r.iflets s.behind_pattern s.behind_iflets s.iflets;
  expr = expression-spelt r.expr s.behind_iflets rest s.expr;
  pattern_is_no_head = s.pattern_is_no_head;
  expr_is_no_condition = s.expr_is_no_condition;
}

-- extractors

pub extractor-spelt : (e : ExtractorDefinition) (all rest : List Placed) → SpellsExtractor e all rest → IsWritableExtractor e
extractor-spelt e all rest s = (
  s.head.3.1.0,
  names-spelt e.args s.head.3.0 s.head.1 s.head.3.2,
  pattern-spelt e.template s.behind_head rest s.template,
)
