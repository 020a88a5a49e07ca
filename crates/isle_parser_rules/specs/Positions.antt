-- The positions in patterns, expressions, rules and extractors.
use Rattle.std.specs.List.{AllByRecursion}
use Rattle.isle_base_source.specs.declared.pos.Pos.{Pos}
use Rattle.isle_ast_rules.specs.Tree.{PatternNode, var_pattern, bind_pattern, bool_pattern, int_pattern, constant_pattern, term_pattern, wildcard_pattern, and_pattern, macro_arg_pattern, PatternList}
use Rattle.isle_ast_rules.specs.Tree.{no_pattern, more_pattern, Expression, term_expression, var_expression, bool_expression, int_expression, constant_expression, let_expression, ExpressionList}
use Rattle.isle_ast_rules.specs.Tree.{no_expression, more_expression, LetList, no_let, more_let, Condition, RuleDefinition, ExtractorDefinition}
use Rattle.isle_parser_cursor.specs.Positions.{OfName, OfOptionalName, OfNames}

abbrev mutual
  pub OfPattern : (Pos → Type 0) → PatternNode → Type 0
  OfPattern P (var_pattern var pos) = P pos × OfName P var
  OfPattern P (bind_pattern var subpat pos) = P pos × OfName P var × OfPattern P subpat
  OfPattern P (bool_pattern val pos) = P pos
  OfPattern P (int_pattern val pos) = P pos
  OfPattern P (constant_pattern val pos) = P pos × OfName P val
  OfPattern P (term_pattern sym args pos) = P pos × OfName P sym × OfPatterns P args
  OfPattern P (wildcard_pattern pos) = P pos
  OfPattern P (and_pattern subpats pos) = P pos × OfPatterns P subpats
  OfPattern P (macro_arg_pattern index pos) = P pos

  pub OfPatterns : (Pos → Type 0) → PatternList → Type 0
  OfPatterns P no_pattern = Unit {0}
  OfPatterns P (more_pattern p ps) = OfPattern P p × OfPatterns P ps

abbrev mutual
  pub OfExpression : (Pos → Type 0) → Expression → Type 0
  OfExpression P (term_expression sym args pos) = P pos × OfName P sym × OfExpressions P args
  OfExpression P (var_expression name pos) = P pos × OfName P name
  OfExpression P (bool_expression val pos) = P pos
  OfExpression P (int_expression val pos) = P pos
  OfExpression P (constant_expression val pos) = P pos × OfName P val
  OfExpression P (let_expression defs body pos) = P pos × OfLets P defs × OfExpression P body

  pub OfExpressions : (Pos → Type 0) → ExpressionList → Type 0
  OfExpressions P no_expression = Unit {0}
  OfExpressions P (more_expression x xs) = OfExpression P x × OfExpressions P xs

  pub OfLets : (Pos → Type 0) → LetList → Type 0
  OfLets P no_let = Unit {0}
  OfLets P (more_let var ty val pos lets) =
      P pos × OfName P var × OfName P ty × OfExpression P val × OfLets P lets

abbrev pub OfCondition : (Pos → Type 0) → Condition → Type 0
OfCondition P c = P c.pos × OfPattern P c.pattern × OfExpression P c.expr

abbrev pub OfRule : (Pos → Type 0) → RuleDefinition → Type 0
OfRule P r =
    P r.pos × OfOptionalName P r.name × OfPattern P r.pattern × AllByRecursion (OfCondition P) r.iflets × OfExpression P r.expr

abbrev pub OfExtractor : (Pos → Type 0) → ExtractorDefinition → Type 0
OfExtractor P e = P e.pos × OfName P e.term × OfNames P e.args × OfPattern P e.template
