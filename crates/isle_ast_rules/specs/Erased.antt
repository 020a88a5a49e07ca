-- Patterns, expressions and rules erased: each position becomes the default one, which stands for
-- an unknown position.
use Rattle.std.specs.Prelude.{map}
use Rattle.isle_base.specs.Place.{unknown}
use Rattle.isle_ast_rules.specs.Tree.{PatternNode, var_pattern, bind_pattern, bool_pattern, int_pattern, constant_pattern, term_pattern, wildcard_pattern, and_pattern, macro_arg_pattern, PatternList, no_pattern, more_pattern, Expression, term_expression, var_expression, bool_expression, int_expression, constant_expression, let_expression, ExpressionList, no_expression, more_expression, LetList, no_let, more_let, Condition, RuleDefinition, ExtractorDefinition}
use Rattle.isle_ast_names.specs.Erased.{erase_name, erase_names, erase_optional}

abbrev mutual
  pub erase_pattern : PatternNode → PatternNode
  erase_pattern (var_pattern var _) = var_pattern (erase_name var) unknown
  erase_pattern (bind_pattern var subpat _) = bind_pattern (erase_name var) (erase_pattern subpat) unknown
  erase_pattern (bool_pattern val _) = bool_pattern val unknown
  erase_pattern (int_pattern val _) = int_pattern val unknown
  erase_pattern (constant_pattern val _) = constant_pattern (erase_name val) unknown
  erase_pattern (term_pattern sym args _) = term_pattern (erase_name sym) (erase_patterns args) unknown
  erase_pattern (wildcard_pattern _) = wildcard_pattern unknown
  erase_pattern (and_pattern subpats _) = and_pattern (erase_patterns subpats) unknown
  erase_pattern (macro_arg_pattern index _) = macro_arg_pattern index unknown

  pub erase_patterns : PatternList → PatternList
  erase_patterns no_pattern = no_pattern
  erase_patterns (more_pattern p ps) = more_pattern (erase_pattern p) (erase_patterns ps)

abbrev mutual
  pub erase_expression : Expression → Expression
  erase_expression (term_expression sym args _) = term_expression (erase_name sym) (erase_expressions args) unknown
  erase_expression (var_expression name _) = var_expression (erase_name name) unknown
  erase_expression (bool_expression val _) = bool_expression val unknown
  erase_expression (int_expression val _) = int_expression val unknown
  erase_expression (constant_expression val _) = constant_expression (erase_name val) unknown
  erase_expression (let_expression defs body _) = let_expression (erase_lets defs) (erase_expression body) unknown

  pub erase_expressions : ExpressionList → ExpressionList
  erase_expressions no_expression = no_expression
  erase_expressions (more_expression x xs) = more_expression (erase_expression x) (erase_expressions xs)

  pub erase_lets : LetList → LetList
  erase_lets no_let = no_let
  erase_lets (more_let var ty val _ lets) =
      more_let (erase_name var) (erase_name ty) (erase_expression val) unknown (erase_lets lets)

abbrev pub erase_condition : Condition → Condition
erase_condition c = record { pattern = erase_pattern c.pattern; expr = erase_expression c.expr; pos = unknown }

abbrev pub erase_rule : RuleDefinition → RuleDefinition
erase_rule r =
    record {
      pattern = erase_pattern r.pattern;
      iflets = map erase_condition r.iflets;
      expr = erase_expression r.expr;
      pos = unknown;
      prio = r.prio;
      name = erase_optional r.name;
    }

abbrev pub erase_extractor : ExtractorDefinition → ExtractorDefinition
erase_extractor e =
    record {
      term = erase_name e.term;
      args = erase_names e.args;
      template = erase_pattern e.template;
      pos = unknown;
    }
