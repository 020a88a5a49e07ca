-- The expressions of rules, each with the variables of patterns that are in scope there.
use Rattle.std.specs.Prelude.{List, ◌∷◌, ◌++◌}
use Rattle.isle_ast_names.specs.Tree.{Name}
use Rattle.isle_ast_rules.specs.Tree.{Expression, Condition, RuleDefinition}
use Rattle.isle_index_laws.specs.scopes.Reads.{pattern_variables, rule_variables}

-- one of these conditions has this expression, which has the scope `there`. The first condition has the scope `scope`
pub data HaveExpression : (scope : List Name) → List Condition → (x : Expression) → (there : List Name) → Type 0 where
  in_first_condition : {scope : List Name} {c : Condition} {cs : List Condition} → HaveExpression scope (c ∷ cs) c.expr scope
  in_later_condition : {scope there : List Name} {c : Condition} {cs : List Condition} {x : Expression} →
      HaveExpression (scope ++ pattern_variables c.pattern) cs x there → HaveExpression scope (c ∷ cs) x there

-- a rule has this expression, which has this scope
pub data HasExpression : RuleDefinition → (x : Expression) → (scope : List Name) → Type 0 where
  -- of a condition: the variables of the rule's pattern, and of the conditions before it
  of_condition : {r : RuleDefinition} {x : Expression} {scope : List Name} →
      HaveExpression (pattern_variables r.pattern) r.iflets x scope → HasExpression r x scope
  -- of the rule itself: the variables of all its patterns
  of_rule : {r : RuleDefinition} → HasExpression r r.expr (rule_variables r)
