-- The type of a typed expression.
use Rattle.std.proofs.Common.{ℕ, List, Option, Some, refl}
use Rattle.isle_ast_rules.specs.Tree.{Expression, term_expression, var_expression, no_expression, more_expression}
use Rattle.isle_check_environment.specs.signatures.Environment.{EnvironmentNode}
use Rattle.isle_check_typing.specs.Progress.{VariableNode}
use Rattle.isle_check_typing.specs.declared.expressions.flags.Flags.{Flags}
use Rattle.isle_check_typing.specs.expressions.TypedExpressions.{TypedExpressionNode, type_of_expression}
use Rattle.isle_check_laws.specs.HasExpressionType.{HasExpressionType, IsWanted, gives_integer, gives_bool, gives_constant, gives_variable, constructs, converts_variable, converts_term, lets}

module _ (env : EnvironmentNode) (flags : Flags) where
  pub type_kept : (e : Expression) (wanted : Option (List ℕ)) (bound : List VariableNode) (typed : TypedExpressionNode) (after : List VariableNode) →
      HasExpressionType env flags e wanted bound typed after → IsWanted (type_of_expression typed) wanted
  type_kept _ _ _ _ _ (gives_integer h) = refl
  type_kept _ _ _ _ _ (gives_bool w) = w
  type_kept _ _ _ _ _ (gives_constant h w) = w
  type_kept _ _ _ _ _ (gives_variable h w) = w
  type_kept _ _ _ _ _ (constructs found w allowed ds) = w
  type_kept _ _ _ _ _ (converts_variable {name} {place} {ty} {converter} {bound} {after} {typed} found other named ext d) =
      type_kept (term_expression (record { text = converter; pos = place }) (more_expression (var_expression name place) no_expression) place) (Some ty) bound typed after d
  type_kept _ _ _ _ _ (converts_term {name} {args} {place} {ty} {converter} {bound} {after} {typed} found other named ext d) =
      type_kept (term_expression (record { text = converter; pos = place }) (more_expression (term_expression name args place) no_expression) place) (Some ty) bound typed after d
  type_kept _ _ _ _ _ (lets {body} {wanted} {middle} {after} {typed} ds d) = type_kept body wanted middle typed after d
