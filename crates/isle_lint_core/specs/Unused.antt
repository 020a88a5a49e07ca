-- Variables that a pattern or a `let` binds and nothing uses.
use Rattle.std.specs.Prelude.{ℕ, List, [], ◌∷◌, ◌++◌, Bool, not, ◌&&◌, ◌==◌, filter, count_by}
use Rattle.std.specs.List.{flat_map}
use Rattle.std.specs.Str.{bytes_eq}
use Rattle.isle_ast_names.specs.Tree.{Name}
use Rattle.isle_ast_rules.specs.Tree.{Expression, term_expression, var_expression, bool_expression, int_expression, constant_expression, let_expression, ExpressionList, no_expression, more_expression, LetList, no_let, more_let, Condition, RuleDefinition}
use Rattle.isle_lint_core.specs.Names.{kept_if}
use Rattle.isle_lint_core.specs.Uses.{uses, let_uses, uses_after}
use Rattle.isle_lint_core.specs.Variables.{variables, rule_variables}
use Rattle.isle_lint_core.specs.declared.patterns.Wanted.{Wanted}

-- the variables of the `let`s in an expression that nothing uses
abbrev mutual
  pub unused : Expression → List Name
  unused (term_expression _ args _) = list_unused args
  unused (var_expression _ _) = []
  unused (bool_expression _ _) = []
  unused (int_expression _ _) = []
  unused (constant_expression _ _) = []
  unused (let_expression defs body _) = let_unused defs (uses body) ++ unused body

  pub list_unused : ExpressionList → List Name
  list_unused no_expression = []
  list_unused (more_expression x xs) = unused x ++ list_unused xs

  -- a definition is used by the definitions after it or by the body
  pub let_unused : LetList → (List ℕ → Bool) → List Name
  let_unused no_let body = []
  let_unused (more_let var _ val _ ds) body =
      kept_if (not (let_uses ds var.text (body var.text))) var ++ unused val ++ let_unused ds body

-- those of a rule
abbrev pub unused_lets : RuleDefinition → List Name
unused_lets r = flat_map (λ c. unused c.expr) r.iflets ++ unused r.expr

-- whether a variable of a pattern is idle: it occurs once in all the patterns and is not used after its own
abbrev pub is_idle : List Name → (List ℕ → Bool) → List ℕ → Bool
is_idle written after name = (count_by (λ n. bytes_eq n.text name) written == 1) && not (after name)

-- the idle ones of a pattern's own variables
abbrev pub idle : List Name → List Name → (List ℕ → Bool) → List Name
idle written own after = filter (λ n. is_idle written after n.text) own

-- the wanted ones of the conditions
abbrev pub conditions_idle : Wanted → List Name → List Condition → Expression → List Name
conditions_idle w written [] expr = []
conditions_idle w written (c ∷ cs) expr =
    idle written (variables w c.pattern) (uses_after cs expr) ++ conditions_idle w written cs expr

-- the wanted ones of all patterns of a rule
abbrev pub rule_idle : Wanted → RuleDefinition → List Name
rule_idle w r =
    idle (rule_variables r) (variables w r.pattern) (uses_after r.iflets r.expr)
    ++ conditions_idle w (rule_variables r) r.iflets r.expr
