-- Typed rules as pure values.
use Rattle.std.specs.Prelude.{ℕ, ℤ, List}
use Rattle.isle_base_source.specs.declared.pos.Pos.{Pos}
use Rattle.isle_check_typing.specs.Typed.{TypedNode}
use Rattle.isle_check_typing.specs.expressions.TypedExpressions.{TypedExpressionNode}

-- a condition: the value of the expression matches the pattern
pub record TypedCondition : Type 0 where
  pub pattern : TypedNode
  pub expr : TypedExpressionNode

pub record TypedRuleNode : Type 0 where
  pub term : List ℕ
  pub args : List TypedNode
  pub iflets : List TypedCondition
  pub expr : TypedExpressionNode
  pub prio : ℤ
  pub pos : Pos
