-- The conditions on each node of a writable rule, as tests.
use Rattle.std.specs.Prelude.{ℕ, ℤ, Bool, true, Option, None, Some, false, not, ◌&&◌, codes}
use Rattle.std.specs.List.{list_all}
use Rattle.isle_ast_names.specs.WritableDeciders.{is_signed, is_name, are_names, is_optional_name, is_word, is_bool_name, begins_with_dollar, is_constant_name}
use Rattle.isle_ast_names.specs.Tree.{Name}
use Rattle.isle_ast_rules.specs.RuleGrammar.{is_if_expression, pattern_is_no_head}
use Rattle.isle_ast_rules.specs.Tree.{PatternNode, var_pattern, bind_pattern, bool_pattern, int_pattern, constant_pattern, term_pattern, wildcard_pattern, and_pattern, macro_arg_pattern, PatternList, no_pattern, more_pattern, Expression, term_expression, var_expression, bool_expression, int_expression, constant_expression, let_expression, ExpressionList, no_expression, more_expression, LetList, no_let, more_let, Condition, RuleDefinition, ExtractorDefinition}
use Rattle.isle_ast_rules.specs.TreeView.{SingleLet}

abbrev pub is_optional_signed : ℕ → Option ℤ → Bool
is_optional_signed bits None = true
is_optional_signed bits (Some n) = is_signed bits n

-- a variable isn't `true` or `false` and doesn't begin with `$`
abbrev pub is_expression_variable : Name → Bool
is_expression_variable n = is_name n && not (is_bool_name n) && not (begins_with_dollar n.text)

-- a variable of a pattern isn't `_` either
abbrev pub is_pattern_variable : Name → Bool
is_pattern_variable n = is_expression_variable n && not (is_word (codes "_") n)

abbrev mutual
  pub is_writable_pattern : PatternNode → Bool
  is_writable_pattern (var_pattern var _) = is_pattern_variable var
  is_writable_pattern (bind_pattern var subpat _) = is_pattern_variable var && is_writable_pattern subpat
  is_writable_pattern (bool_pattern _ _) = true
  is_writable_pattern (int_pattern val _) = is_signed 127 val
  is_writable_pattern (constant_pattern val _) = is_constant_name val
  is_writable_pattern (term_pattern sym args _) =
      is_name sym && not (is_word (codes "and") sym) && are_writable_patterns args
  is_writable_pattern (wildcard_pattern _) = true
  is_writable_pattern (and_pattern subpats _) = are_writable_patterns subpats
  is_writable_pattern (macro_arg_pattern _ _) = false

  pub are_writable_patterns : PatternList → Bool
  are_writable_patterns no_pattern = true
  are_writable_patterns (more_pattern p ps) = is_writable_pattern p && are_writable_patterns ps

abbrev mutual
  pub is_writable_expression : Expression → Bool
  is_writable_expression (term_expression sym args _) =
      is_name sym && not (is_word (codes "let") sym) && are_writable_expressions args
  is_writable_expression (var_expression name _) = is_expression_variable name
  is_writable_expression (bool_expression _ _) = true
  is_writable_expression (int_expression val _) = is_signed 127 val
  is_writable_expression (constant_expression val _) = is_constant_name val
  is_writable_expression (let_expression defs body _) = are_writable_lets defs && is_writable_expression body

  pub are_writable_expressions : ExpressionList → Bool
  are_writable_expressions no_expression = true
  are_writable_expressions (more_expression x xs) = is_writable_expression x && are_writable_expressions xs

  pub are_writable_lets : LetList → Bool
  are_writable_lets no_let = true
  are_writable_lets (more_let var ty val _ lets) =
      (is_name var && is_name ty && is_writable_expression val) && are_writable_lets lets

-- the same of one definition of a `let`, by itself
abbrev pub is_writable_single_let : SingleLet → Bool
is_writable_single_let d = is_name d.var && is_name d.ty && is_writable_expression d.val

abbrev pub is_writable_condition : Condition → Bool
is_writable_condition c = is_writable_pattern c.pattern && is_writable_expression c.expr

abbrev pub is_writable_rule : RuleDefinition → Bool
is_writable_rule r =
    is_optional_name r.name && is_optional_signed 63 r.prio && is_writable_pattern r.pattern
    && list_all is_writable_condition r.iflets && is_writable_expression r.expr
    && pattern_is_no_head r.name r.prio r.pattern && not (is_if_expression r.expr)

abbrev pub is_writable_extractor : ExtractorDefinition → Bool
is_writable_extractor e = is_name e.term && are_names e.args && is_writable_pattern e.template
