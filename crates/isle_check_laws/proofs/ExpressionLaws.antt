-- Typing of expressions, and the rules of their types.
use Rattle.std.proofs.Common.{◌≡◌, ◌↔◌, ℕ, ◌+◌, List, [], Option, refl, ap, sym, ◌∙◌, subst, le_refl, arith}
use Rattle.std.proofs.lemmas.Option.{same_Some}
use Rattle.isle_ast_rules.specs.Tree.{Expression, ExpressionList}
use Rattle.isle_check_environment.specs.signatures.Environment.{EnvironmentNode}
use Rattle.isle_check_typing.specs.Progress.{ProgressNode, VariableNode}
use Rattle.isle_check_typing.specs.Typings.{Typing, gives}
use Rattle.isle_check_typing.specs.declared.expressions.flags.Flags.{Flags}
use Rattle.isle_check_typing.specs.expressions.TypedExpressions.{TypedExpressionNode}
use Rattle.isle_check_laws.specs.HasExpressionType.{HasExpressionType, HaveExpressionTypes}
use Rattle.isle_check_laws.specs.Untold.{IsExpressionTypedAs, AreExpressionsTypedAs, progress, gives_all}
use Rattle.isle_check_laws.proofs.ExpressionCompleteness.{complete, complete_arguments}
use Rattle.isle_check_laws.proofs.ExpressionSoundness.{sound, sound_arguments}

module _ (env : EnvironmentNode) (flags : Flags) (e : Expression) (wanted : Option (List ℕ)) (s : ProgressNode) (typed : TypedExpressionNode) (after : List VariableNode) where
  typed_so : IsExpressionTypedAs env flags e wanted s typed after → HasExpressionType env flags e wanted s.bound typed after
  typed_so h =
      let g = sound env flags h.0 e wanted s (gives typed (progress after s.faults)) h.1 refl in
      subst (λ x. HasExpressionType env flags e wanted s.bound x after) (sym (same_Some typed g.0 g.1.0)) g.1.1

  types_so : HasExpressionType env flags e wanted s.bound typed after → IsExpressionTypedAs env flags e wanted s typed after
  types_so h = let c = complete env flags e wanted s.bound typed after h in (c.depth, c.at c.depth (le_refl c.depth) s.faults)

pub expressions_typed : (env : EnvironmentNode) (flags : Flags) (e : Expression) (wanted : Option (List ℕ)) (s : ProgressNode) (typed : TypedExpressionNode) (after : List VariableNode) →
    IsExpressionTypedAs env flags e wanted s typed after ↔ HasExpressionType env flags e wanted s.bound typed after
expressions_typed env flags e wanted s typed after = (typed_so env flags e wanted s typed after, types_so env flags e wanted s typed after)

module _ (env : EnvironmentNode) (flags : Flags) (es : ExpressionList) (types : List (List ℕ)) (s : ProgressNode) (typed : List TypedExpressionNode) (after : List VariableNode) where
  all_typed_so : AreExpressionsTypedAs env flags es types s typed after → HaveExpressionTypes env flags es types s.bound typed after
  all_typed_so h = sound_arguments env flags h.1.0 es types s (gives_all typed (progress after s.faults)) h.1.1 refl h.0

  types_all_so : HaveExpressionTypes env flags es types s.bound typed after → AreExpressionsTypedAs env flags es types s typed after
  types_all_so h =
      let c = complete_arguments env flags es types s.bound typed after h in (c.count, (c.depth, c.at c.depth (le_refl c.depth) s.faults []))

pub arguments_typed : (env : EnvironmentNode) (flags : Flags) (es : ExpressionList) (types : List (List ℕ)) (s : ProgressNode) (typed : List TypedExpressionNode) (after : List VariableNode) →
    AreExpressionsTypedAs env flags es types s typed after ↔ HaveExpressionTypes env flags es types s.bound typed after
arguments_typed env flags es types s typed after = (all_typed_so env flags es types s typed after, types_all_so env flags es types s typed after)

pub one_typing : (env : EnvironmentNode) (flags : Flags) (e : Expression) (wanted : Option (List ℕ)) (bound : List VariableNode) (typed other : TypedExpressionNode) (after later : List VariableNode) →
    HasExpressionType env flags e wanted bound typed after → HasExpressionType env flags e wanted bound other later → (typed ≡ other) × (after ≡ later)
one_typing env flags e wanted bound typed other after later one two =
    let a = complete env flags e wanted bound typed after one in
    let b = complete env flags e wanted bound other later two in
    let same : gives typed (progress after []) ≡ gives other (progress later []) =
    same_Some (gives typed (progress after [])) (gives other (progress later []))
    (sym (a.at (a.depth + b.depth) (omega arith) []) ∙ b.at (a.depth + b.depth) (omega arith) []) in
    (same_Some typed other (ap (λ (r : Typing TypedExpressionNode). r.typed) same), ap (λ (r : Typing TypedExpressionNode). r.after.bound) same)
