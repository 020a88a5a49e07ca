-- The position of a single node, and the symbol of its term.
use Rattle.std.specs.Prelude.{Option, None, Some}
use Rattle.isle_base_source.specs.declared.pos.Pos.{Pos}
use Rattle.isle_ast_names.specs.Tree.{Name}
use Rattle.isle_ast_rules.specs.Tree.{PatternNode, var_pattern, bind_pattern, bool_pattern, int_pattern, constant_pattern, term_pattern, wildcard_pattern, and_pattern, macro_arg_pattern, Expression, term_expression, var_expression, bool_expression, int_expression, constant_expression, let_expression}

-- the position of a pattern
abbrev pub pattern_pos : PatternNode → Pos
pattern_pos (var_pattern _ place) = place
pattern_pos (bind_pattern _ _ place) = place
pattern_pos (bool_pattern _ place) = place
pattern_pos (int_pattern _ place) = place
pattern_pos (constant_pattern _ place) = place
pattern_pos (term_pattern _ _ place) = place
pattern_pos (wildcard_pattern place) = place
pattern_pos (and_pattern _ place) = place
pattern_pos (macro_arg_pattern _ place) = place

-- the position of an expression
abbrev pub expression_pos : Expression → Pos
expression_pos (term_expression _ _ place) = place
expression_pos (var_expression _ place) = place
expression_pos (bool_expression _ place) = place
expression_pos (int_expression _ place) = place
expression_pos (constant_expression _ place) = place
expression_pos (let_expression _ _ place) = place

-- the symbol of a term pattern; other patterns have none
abbrev pub root_term : PatternNode → Option Name
root_term (var_pattern _ _) = None
root_term (bind_pattern _ _ _) = None
root_term (bool_pattern _ _) = None
root_term (int_pattern _ _) = None
root_term (constant_pattern _ _) = None
root_term (term_pattern sym _ _) = Some sym
root_term (wildcard_pattern _) = None
root_term (and_pattern _ _) = None
root_term (macro_arg_pattern _ _) = None
