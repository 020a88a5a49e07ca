-- Positions play no part in which patterns, expressions, conditions, rules and extractors are writable.
use Rattle.std.proofs.Common.{sym, ◌∙◌, ◌↔◌}
use Rattle.isle_ast_names.specs.Tree.{Name}
use Rattle.isle_ast_rules.specs.Tree.{PatternNode, var_pattern, bind_pattern, bool_pattern, int_pattern, constant_pattern, term_pattern, wildcard_pattern, and_pattern, macro_arg_pattern, PatternList, no_pattern, more_pattern, Expression, term_expression, var_expression, bool_expression, int_expression, constant_expression, let_expression, ExpressionList, no_expression, more_expression, LetList, no_let, more_let, Condition, RuleDefinition, ExtractorDefinition}
use Rattle.isle_ast_names.proofs.Writable.Erased.{unchanged, each-erased, names-erased, optional-erased}
use Rattle.isle_ast_names.specs.Erased.{erase_name}
use Rattle.isle_ast_rules.proofs.Lawful.Rules.{no_head_erased, if_erased}
use Rattle.isle_ast_rules.specs.Erased.{erase_pattern, erase_patterns, erase_expression, erase_expressions, erase_lets, erase_condition, erase_rule, erase_extractor}
use Rattle.isle_ast_rules.specs.Writable.{IsPatternVariable, IsWritablePattern, AreWritablePatterns, IsExpressionVariable, IsWritableExpression, AreWritableExpressions, AreWritableLets, IsWritableCondition, IsWritableRule, IsWritableExtractor}

pattern_variable-erased : (n : Name) → IsPatternVariable (erase_name n) ↔ IsPatternVariable n
pattern_variable-erased n = (
  λ h. record {
    name = h.name;
    not_wildcard = h.not_wildcard;
    not_true = h.not_true;
    not_false = h.not_false;
    not_constant = h.not_constant;
  },
  λ h. record {
    name = h.name;
    not_wildcard = h.not_wildcard;
    not_true = h.not_true;
    not_false = h.not_false;
    not_constant = h.not_constant;
  },
)

mutual
  pub pattern-erased : (p : PatternNode) → IsWritablePattern (erase_pattern p) ↔ IsWritablePattern p
  pattern-erased (var_pattern var _) = pattern_variable-erased var
  pattern-erased (bind_pattern var subpat _) =
      let name = pattern_variable-erased var in
      let bound = pattern-erased subpat in
      (λ h. (name.0 h.0, bound.0 h.1), λ h. (name.1 h.0, bound.1 h.1))
  pattern-erased (bool_pattern _ _) = unchanged
  pattern-erased (int_pattern val _) = unchanged
  pattern-erased (constant_pattern val _) = unchanged
  pattern-erased (term_pattern sym args _) =
      let list = patterns-erased args in
      (λ h. (h.0, h.1, list.0 h.2), λ h. (h.0, h.1, list.1 h.2))
  pattern-erased (wildcard_pattern _) = unchanged
  pattern-erased (and_pattern subpats _) = patterns-erased subpats
  pattern-erased (macro_arg_pattern _ _) = unchanged

  pub patterns-erased : (ps : PatternList) → AreWritablePatterns (erase_patterns ps) ↔ AreWritablePatterns ps
  patterns-erased no_pattern = unchanged
  patterns-erased (more_pattern p ps) =
      let first = pattern-erased p in
      let behind = patterns-erased ps in
      (λ h. (first.0 h.0, behind.0 h.1), λ h. (first.1 h.0, behind.1 h.1))

expression_variable-erased : (n : Name) → IsExpressionVariable (erase_name n) ↔ IsExpressionVariable n
expression_variable-erased n = (
  λ h. record { name = h.name; not_true = h.not_true; not_false = h.not_false; not_constant = h.not_constant },
  λ h. record { name = h.name; not_true = h.not_true; not_false = h.not_false; not_constant = h.not_constant },
)

mutual
  pub expression-erased : (x : Expression) → IsWritableExpression (erase_expression x) ↔ IsWritableExpression x
  expression-erased (term_expression sym args _) =
      let list = expressions-erased args in
      (λ h. (h.0, h.1, list.0 h.2), λ h. (h.0, h.1, list.1 h.2))
  expression-erased (var_expression name _) = expression_variable-erased name
  expression-erased (bool_expression _ _) = unchanged
  expression-erased (int_expression val _) = unchanged
  expression-erased (constant_expression val _) = unchanged
  expression-erased (let_expression defs body _) =
      let list = lets-erased defs in
      let value = expression-erased body in
      (λ h. (list.0 h.0, value.0 h.1), λ h. (list.1 h.0, value.1 h.1))

  pub expressions-erased : (xs : ExpressionList) → AreWritableExpressions (erase_expressions xs) ↔ AreWritableExpressions xs
  expressions-erased no_expression = unchanged
  expressions-erased (more_expression x xs) =
      let first = expression-erased x in
      let behind = expressions-erased xs in
      (λ h. (first.0 h.0, behind.0 h.1), λ h. (first.1 h.0, behind.1 h.1))

  lets-erased : (lets : LetList) → AreWritableLets (erase_lets lets) ↔ AreWritableLets lets
  lets-erased no_let = unchanged
  lets-erased (more_let var ty val _ lets) =
      let value = expression-erased val in
      let behind = lets-erased lets in
      (λ h. (h.0, h.1, value.0 h.2, behind.0 h.3), λ h. (h.0, h.1, value.1 h.2, behind.1 h.3))

condition-erased : (c : Condition) → IsWritableCondition (erase_condition c) ↔ IsWritableCondition c
condition-erased c =
    let pattern = pattern-erased c.pattern in
    let expr = expression-erased c.expr in
    (λ h. (pattern.0 h.0, expr.0 h.1), λ h. (pattern.1 h.0, expr.1 h.1))

pub rule-erased : (r : RuleDefinition) → IsWritableRule (erase_rule r) ↔ IsWritableRule r
rule-erased r =
    let name = optional-erased r.name in
    let pattern = pattern-erased r.pattern in
    let iflets = each-erased IsWritableCondition erase_condition condition-erased r.iflets in
    let expr = expression-erased r.expr in
    let no_head = no_head_erased r.name r.prio r.pattern in
    let no_if = if_erased r.expr in (
      λ h. record {
        name = name.0 h.name;
        prio = h.prio;
        pattern = pattern.0 h.pattern;
        iflets = iflets.0 h.iflets;
        expr = expr.0 h.expr;
        pattern_is_no_head = sym no_head ∙ h.pattern_is_no_head;
        expr_is_no_condition = sym no_if ∙ h.expr_is_no_condition;
      },
      λ h. record {
        name = name.1 h.name;
        prio = h.prio;
        pattern = pattern.1 h.pattern;
        iflets = iflets.1 h.iflets;
        expr = expr.1 h.expr;
        pattern_is_no_head = no_head ∙ h.pattern_is_no_head;
        expr_is_no_condition = no_if ∙ h.expr_is_no_condition;
      },
    )

pub extractor-erased : (e : ExtractorDefinition) → IsWritableExtractor (erase_extractor e) ↔ IsWritableExtractor e
extractor-erased e =
    let args = names-erased e.args in
    let template = pattern-erased e.template in
    (λ h. (h.0, args.0 h.1, template.0 h.2), λ h. (h.0, args.1 h.1, template.1 h.2))
