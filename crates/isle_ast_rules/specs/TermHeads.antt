-- The terms of a pattern or an expression, in the order of the text.
use Rattle.std.specs.Prelude.{◌≡◌, List, [], ◌∷◌, ◌++◌}
use Rattle.std.specs.Borrow.{Bor}
use Rattle.std.specs.Fn.{Called, Mut}
use Rattle.isle_base_source.specs.declared.pos.Pos.{Pos}
use Rattle.isle_ast_names.specs.declared.Ident.{Ident}
use Rattle.isle_ast_names.specs.TreeView.{name_of}
use Rattle.isle_ast_names.specs.Tree.{Name}
use Rattle.isle_ast_rules.specs.Tree.{PatternNode, var_pattern, bind_pattern, bool_pattern, int_pattern, constant_pattern, term_pattern, wildcard_pattern, and_pattern, macro_arg_pattern, PatternList, no_pattern, more_pattern, Expression, term_expression, var_expression, bool_expression, int_expression, constant_expression, let_expression, ExpressionList, no_expression, more_expression, LetList, no_let, more_let}

-- the positions and symbols of the terms: a term comes before those of its arguments
abbrev mutual
  pub heads : PatternNode → List (Pos × Name)
  heads (var_pattern _ _) = []
  heads (bind_pattern _ subpat _) = heads subpat
  heads (bool_pattern _ _) = []
  heads (int_pattern _ _) = []
  heads (constant_pattern _ _) = []
  heads (term_pattern sym args place) = (place, sym) ∷ list_heads args
  heads (wildcard_pattern _) = []
  heads (and_pattern subpats _) = list_heads subpats
  heads (macro_arg_pattern _ _) = []

  pub list_heads : PatternList → List (Pos × Name)
  list_heads no_pattern = []
  list_heads (more_pattern p ps) = heads p ++ list_heads ps

-- the same of an expression: in a `let`, the terms of the values come before those of the body
abbrev mutual
  pub expression_heads : Expression → List (Pos × Name)
  expression_heads (term_expression sym args place) = (place, sym) ∷ expression_list_heads args
  expression_heads (var_expression _ _) = []
  expression_heads (bool_expression _ _) = []
  expression_heads (int_expression _ _) = []
  expression_heads (constant_expression _ _) = []
  expression_heads (let_expression defs body _) = let_list_heads defs ++ expression_heads body

  pub expression_list_heads : ExpressionList → List (Pos × Name)
  expression_list_heads no_expression = []
  expression_list_heads (more_expression x xs) = expression_heads x ++ expression_list_heads xs

  pub let_list_heads : LetList → List (Pos × Name)
  let_list_heads no_let = []
  let_list_heads (more_let _ _ val _ ds) = expression_heads val ++ let_list_heads ds

-- a call of f with a position and a reference to an identifier with that name
pub record CalledAtHead {F : Type 0} (g : Mut F (Pos × (Bor Ident × Unit {0})) (Unit {0})) (f : F) (head : Pos × Name) (f' : F) : Type 0 where
  pub shown : Bor Ident
  pub shows : name_of shown.now ≡ head.1
  pub called : Called g f (head.0, (shown, tt)) tt f'
