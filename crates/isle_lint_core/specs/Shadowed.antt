-- Variables that a `let` binds although they are bound already.
use Rattle.std.specs.Prelude.{List, [], ◌∷◌, ◌++◌}
use Rattle.isle_ast_names.specs.Tree.{Name}
use Rattle.isle_ast_rules.specs.Tree.{Expression, term_expression, var_expression, bool_expression, int_expression, constant_expression, let_expression, ExpressionList, no_expression, more_expression, LetList, no_let, more_let, Condition, RuleDefinition}
use Rattle.isle_lint_core.specs.Names.{has, kept_if}
use Rattle.isle_lint_core.specs.Variables.{all, variables, condition_variables}

-- the names that a `let` binds
abbrev pub let_names : LetList → List Name
let_names no_let = []
let_names (more_let var _ _ _ ds) = var ∷ let_names ds

-- those of an expression. These names are bound around it
abbrev mutual
  pub shadowed : Expression → List Name → List Name
  shadowed (term_expression _ args _) bound = list_shadowed args bound
  shadowed (var_expression _ _) bound = []
  shadowed (bool_expression _ _) bound = []
  shadowed (int_expression _ _) bound = []
  shadowed (constant_expression _ _) bound = []
  shadowed (let_expression defs body _) bound = let_shadowed defs bound ++ shadowed body (bound ++ let_names defs)

  pub list_shadowed : ExpressionList → List Name → List Name
  list_shadowed no_expression bound = []
  list_shadowed (more_expression x xs) bound = shadowed x bound ++ list_shadowed xs bound

  -- each definition comes after those before it
  pub let_shadowed : LetList → List Name → List Name
  let_shadowed no_let bound = []
  let_shadowed (more_let var _ val _ ds) bound = shadowed val bound ++ kept_if (has bound var.text) var ++ let_shadowed ds (bound ++ var ∷ [])

-- those of the expressions of conditions
abbrev pub conditions_shadowed : List Condition → List Name → List Name
conditions_shadowed [] bound = []
conditions_shadowed (c ∷ cs) bound = shadowed c.expr bound ++ conditions_shadowed cs (bound ++ variables all c.pattern)

-- those of a rule
abbrev pub shadowed_variables : RuleDefinition → List Name
shadowed_variables r =
    conditions_shadowed r.iflets (variables all r.pattern)
    ++ shadowed r.expr (variables all r.pattern ++ condition_variables r.iflets)
