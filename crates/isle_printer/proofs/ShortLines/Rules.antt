-- The shapes of writable patterns, expressions, rules and extractors are tidy.
use Rattle.std.proofs.Common.{ℤ, [], ◌∷◌, codes, Option, None, Some, IfSome, refl}
use Rattle.isle_ast_names.specs.Numbers.{IsSigned}
use Rattle.isle_ast_names.specs.Tree.{Name}
use Rattle.isle_ast_rules.specs.Tree.{PatternNode, var_pattern, bind_pattern, bool_pattern, int_pattern, constant_pattern, term_pattern, wildcard_pattern, and_pattern, macro_arg_pattern, PatternList}
use Rattle.isle_ast_rules.specs.Tree.{no_pattern, more_pattern, Expression, term_expression, var_expression, bool_expression, int_expression, constant_expression, let_expression, ExpressionList}
use Rattle.isle_ast_rules.specs.Tree.{no_expression, more_expression, LetList, no_let, more_let, Condition, RuleDefinition, ExtractorDefinition}
use Rattle.isle_ast_names.specs.Writable.{IsName}
use Rattle.isle_ast_rules.specs.Writable.{IsConstantName, IsWritablePattern, AreWritablePatterns, IsWritableExpression, AreWritableExpressions, AreWritableLets, IsWritableCondition, IsWritableRule, IsWritableExtractor}
use Rattle.isle_printer.specs.RuleShapes.{pattern_shape, pattern_shapes, expression_shape, expression_shapes, let_shapes, condition_shape, rule_name_shape, priority_shape, rule_shape, extractor_shape}
use Rattle.isle_printer_layout.specs.Sexp.{list_of}
use Rattle.isle_printer_layout.specs.NameShapes.{constant_shape}
use Rattle.isle_printer_layout.proofs.ShortLines.Layout.{IsNoEmptyList, IsTidy}
use Rattle.isle_printer_layout.proofs.ShortLines.Parts.{plain-identifier, plain-bool_word, plain-priority, plain-integer, TidyItems, ◌then◌, tidy-nothing, tidy-item, tidy-word, tidy-name, tidy-all}
use Rattle.isle_printer_layout.proofs.ShortLines.Parts.{BeginsWell, tidy-list, tidy-form, tidy-headed_item}

-- a constant is an identifier after `$`
pub tidy-constant : (n : Name) → IsConstantName n → IsTidy (constant_shape n)
tidy-constant n is = plain-identifier (36 ∷ n.text) is

pattern-no_empty : (p : PatternNode) → IsNoEmptyList (pattern_shape p)
pattern-no_empty (var_pattern _ _) = tt
pattern-no_empty (bind_pattern _ _ _) = tt
pattern-no_empty (bool_pattern _ _) = tt
pattern-no_empty (int_pattern _ _) = tt
pattern-no_empty (constant_pattern _ _) = tt
pattern-no_empty (term_pattern _ _ _) = tt
pattern-no_empty (wildcard_pattern _) = tt
pattern-no_empty (and_pattern _ _) = tt
pattern-no_empty (macro_arg_pattern _ _) = tt

mutual
  tidy-pattern : (p : PatternNode) → IsWritablePattern p → IsTidy (pattern_shape p)
  tidy-pattern (var_pattern var _) is = plain-identifier var.text is.name
  tidy-pattern (bind_pattern var subpat _) is =
      (plain-identifier var.text is.0.name, pattern-no_empty subpat, tidy-pattern subpat is.1)
  tidy-pattern (bool_pattern val _) is = plain-bool_word val
  tidy-pattern (int_pattern val _) is = plain-integer val is
  tidy-pattern (constant_pattern val _) is = tidy-constant val is
  tidy-pattern (term_pattern sym args _) is = (tt, plain-identifier sym.text is.0, (tidy-patterns args is.2).are)
  tidy-pattern (wildcard_pattern _) is = refl
  tidy-pattern (and_pattern subpats _) is = tidy-form (codes "and") refl (pattern_shapes subpats) (tidy-patterns subpats is)
  tidy-pattern (macro_arg_pattern _ _) is = absurd is

  tidy-patterns : (ps : PatternList) → AreWritablePatterns ps → TidyItems (pattern_shapes ps)
  tidy-patterns no_pattern is = tidy-nothing
  tidy-patterns (more_pattern p ps) is = tidy-item (tidy-pattern p is.0) then tidy-patterns ps is.1

lets-begin : (lets : LetList) → BeginsWell (let_shapes lets)
lets-begin no_let = tt
lets-begin (more_let _ _ _ _ _) = tt

mutual
  tidy-expression : (x : Expression) → IsWritableExpression x → IsTidy (expression_shape x)
  tidy-expression (term_expression sym args _) is = (tt, plain-identifier sym.text is.0, (tidy-expressions args is.2).are)
  tidy-expression (var_expression name _) is = plain-identifier name.text is.name
  tidy-expression (bool_expression val _) is = plain-bool_word val
  tidy-expression (int_expression val _) is = plain-integer val is
  tidy-expression (constant_expression val _) is = tidy-constant val is
  tidy-expression (let_expression defs body _) is =
      tidy-form (codes "let") refl
      (list_of (let_shapes defs) ∷ expression_shape body ∷ [])
      (tidy-item (tidy-list (let_shapes defs) (lets-begin defs) (tidy-lets defs is.0)) then tidy-item (tidy-expression body is.1))

  tidy-expressions : (xs : ExpressionList) → AreWritableExpressions xs → TidyItems (expression_shapes xs)
  tidy-expressions no_expression is = tidy-nothing
  tidy-expressions (more_expression x xs) is = tidy-item (tidy-expression x is.0) then tidy-expressions xs is.1

  tidy-lets : (lets : LetList) → AreWritableLets lets → TidyItems (let_shapes lets)
  tidy-lets no_let is = tidy-nothing
  tidy-lets (more_let var ty val _ lets) is =
      tidy-item (tidy-list _ tt (tidy-name var is.0 then tidy-name ty is.1 then tidy-item (tidy-expression val is.2))) then tidy-lets lets is.3

tidy-condition : (c : Condition) → IsWritableCondition c → IsTidy (condition_shape c)
tidy-condition c is =
    tidy-form (codes "if-let") refl _ (tidy-item (tidy-pattern c.pattern is.0) then tidy-item (tidy-expression c.expr is.1))

tidy-rule_name : (name : Option Name) → IfSome name IsName → TidyItems (rule_name_shape name)
tidy-rule_name None is = tidy-nothing
tidy-rule_name (Some name) is = tidy-name name is

tidy-priority : (prio : Option ℤ) → IfSome prio (IsSigned 63) → TidyItems (priority_shape prio)
tidy-priority None fits = tidy-nothing
tidy-priority (Some prio) fits = tidy-item (plain-priority prio fits)

pub tidy-rule : (r : RuleDefinition) → IsWritableRule r → IsTidy (rule_shape r)
tidy-rule r is =
    tidy-list _ tt
    (tidy-word (codes "rule") refl
    then tidy-rule_name r.name is.name
    then tidy-priority r.prio is.prio
    then tidy-item (tidy-pattern r.pattern is.pattern)
    then tidy-all condition_shape IsWritableCondition tidy-condition r.iflets is.iflets
    then tidy-item (tidy-expression r.expr is.expr))

pub tidy-extractor : (e : ExtractorDefinition) → IsWritableExtractor e → IsTidy (extractor_shape e)
tidy-extractor e is =
    tidy-list _ tt
    (tidy-word (codes "extractor") refl
    then tidy-headed_item e.term e.args is.0 is.1
    then tidy-item (tidy-pattern e.template is.2))
