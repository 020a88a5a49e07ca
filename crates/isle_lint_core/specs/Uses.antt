-- Which expressions use a variable that is bound around them. A definition of a `let` is in scope in the later ones
-- and in the body.
use Rattle.std.specs.Prelude.{ℕ, List, [], ◌∷◌, Bool, false, not, ◌&&◌, ◌||◌}
use Rattle.std.specs.Str.{bytes_eq}
use Rattle.isle_ast_rules.specs.Tree.{Expression, term_expression, var_expression, bool_expression, int_expression, constant_expression, let_expression, ExpressionList, no_expression, more_expression, LetList, no_let, more_let, Condition}

abbrev mutual
  pub uses : Expression → List ℕ → Bool
  uses (term_expression _ args _) name = list_uses args name
  uses (var_expression var _) name = bytes_eq var.text name
  uses (bool_expression _ _) name = false
  uses (int_expression _ _) name = false
  uses (constant_expression _ _) name = false
  uses (let_expression defs body _) name = let_uses defs name (uses body name)

  pub list_uses : ExpressionList → List ℕ → Bool
  list_uses no_expression name = false
  list_uses (more_expression x xs) name = uses x name || list_uses xs name

  -- the last argument tells whether the body uses it, where no definition of that name hides it
  pub let_uses : LetList → List ℕ → Bool → Bool
  let_uses no_let name body = body
  let_uses (more_let var _ val _ ds) name body = uses val name || (not (bytes_eq var.text name) && let_uses ds name body)

-- whether the expression of a condition, or the rule's own, uses it
abbrev pub uses_after : List Condition → Expression → List ℕ → Bool
uses_after [] expr name = uses expr name
uses_after (c ∷ cs) expr name = uses c.expr name || uses_after cs expr name
