-- The typed rules of rules, by rules.
use Rattle.std.specs.Prelude.{◌≡◌, pos, List, [], ◌∷◌, true, None, Some, unwrap_or}
use Rattle.isle_base_source.specs.declared.pos.Pos.{Pos}
use Rattle.isle_ast_names.specs.Tree.{Name}
use Rattle.isle_ast_rules.specs.Tree.{PatternList, term_pattern, Condition, RuleDefinition}
use Rattle.isle_check_environment.specs.signatures.Environment.{EnvironmentNode}
use Rattle.isle_check_environment.specs.signatures.Signatures.{TermNode}
use Rattle.isle_check_typing.specs.Progress.{VariableNode}
use Rattle.isle_check_typing.specs.Typed.{TypedNode}
use Rattle.isle_check_typing.specs.declared.expressions.flags.Flags.{Flags}
use Rattle.isle_check_typing.specs.expressions.TypedExpressions.{TypedExpressionNode, type_of_expression}
use Rattle.isle_check_rules.specs.RuleTypes.{condition_flags, rule_flags}
use Rattle.isle_check_rules.specs.TypedRules.{TypedCondition, TypedRuleNode}
use Rattle.isle_check_laws.specs.HasExpressionType.{HasExpressionType}
use Rattle.isle_check_laws.specs.HasType.{HasType, HaveTypes}

-- conditions: each has an expression of any type, and then a pattern of that type
pub data AreConditions (env : EnvironmentNode) (flags : Flags) : List Condition → (bound : List VariableNode) → List TypedCondition → (after : List VariableNode) → Type 0 where
  no_condition : {bound : List VariableNode} → AreConditions env flags [] bound [] bound
  one_condition : {c : Condition} {cs : List Condition} {bound middle behind after : List VariableNode} {pattern : TypedNode} {expr : TypedExpressionNode} {rest : List TypedCondition} →
      HasExpressionType env flags c.expr None bound expr middle → HasType env c.pattern (type_of_expression expr) middle pattern behind →
      AreConditions env flags cs behind rest after →
      AreConditions env flags (c ∷ cs) bound (record { pattern = pattern; expr = expr } ∷ rest) after

pub data IsTypedRule (env : EnvironmentNode) : RuleDefinition → TypedRuleNode → Type 0 where
  -- a rule of a term has patterns of the types of its arguments, then conditions, and then a right side of the type of its
  -- result. Conditions are pure, and may be partial. A rule of a multi term has no priority
  rewrites : {r : RuleDefinition} {name : Name} {args : PatternList} {place : Pos} {t : TermNode} {bound middle after : List VariableNode} {left : List TypedNode} {iflets : List TypedCondition} {right : TypedExpressionNode} →
      r.pattern ≡ term_pattern name args place → env.terms name.text ≡ Some t →
      HaveTypes env args t.args [] left bound →
      AreConditions env (condition_flags t) r.iflets bound iflets middle →
      HasExpressionType env (rule_flags t) r.expr (Some t.ret) middle right after →
      (t.multi ≡ true → r.prio ≡ None) →
      IsTypedRule env r (record { term = name.text; args = left; iflets = iflets; expr = right; prio = unwrap_or r.prio (pos 0); pos = r.pos })
