-- The type of an expression where none is wanted.
use Rattle.std.proofs.Common.{◌≡◌, ℕ, suc, zero, List, [], Option, None, Some, IfSome, refl, length}
use Rattle.isle_base_source.specs.declared.pos.Pos.{Pos}
use Rattle.isle_ast_names.specs.Tree.{Name}
use Rattle.isle_ast_rules.specs.Tree.{Expression, ExpressionList, LetList, bool_expression, constant_expression, int_expression, let_expression, term_expression, var_expression}
use Rattle.isle_check_environment.specs.signatures.Environment.{EnvironmentNode}
use Rattle.isle_check_environment.specs.signatures.Signatures.{TermNode}
use Rattle.isle_check_typing.specs.Progress.{FoundNode, ProgressNode, find}
use Rattle.isle_check_typing.specs.Typings.{Typing, Typings}
use Rattle.isle_check_typing.specs.declared.expressions.flags.Flags.{Flags}
use Rattle.isle_check_typing.specs.expressions.ExpressionTypes.{arguments_by, close, constant_by, count_arguments, count_expressions, expression_at, lets_by, term_by, use_term, variable_by}
use Rattle.isle_check_typing.specs.expressions.TypedExpressions.{TypedExpressionNode, TypedLetNode, type_of_expression}
use Rattle.isle_check_laws.specs.RuleParts.{HasOwnType}
use Rattle.isle_check_laws.proofs.RuleSteps.{map_some, then_some}

any_some : {X : Type 0} (o : Option X) → IfSome o (λ _. Unit {0})
any_some None = tt
any_some (Some x) = tt

module _ (env : EnvironmentNode) (flags : Flags) where
  -- a typed expression, if there is one, has a type of the expression
  abbrev pub Fits : Expression → Typing TypedExpressionNode → Type 0
  Fits e m = IfSome m.typed (λ x. HasOwnType env e (type_of_expression x))

  constant : (name : Name) (place : Pos) (s : ProgressNode) (o : Option (List ℕ)) → env.constants name.text ≡ o →
      Fits (constant_expression name place) (constant_by o name.text place None s)
  constant name place s None is = tt
  constant name place s (Some found) is = is

  variable : (depth : ℕ) (name : Name) (place : Pos) (s : ProgressNode) (o : Option FoundNode) →
      IfSome (variable_by (expression_at depth env flags) env o (var_expression name place) name.text place None s) (Fits (var_expression name place))
  variable depth name place s None = tt
  variable depth name place s (Some known) = tt

  term : (depth : ℕ) (name : Name) (args : ExpressionList) (place : Pos) (s : ProgressNode) (o : Option TermNode) → env.terms name.text ≡ o →
      IfSome (term_by (expression_at depth env flags) env flags o (term_expression name args place) name.text args place None s)
      (Fits (term_expression name args place))
  term depth name args place s None is = tt
  term depth name args place s (Some t) is =
      let o : Option (Typings TypedExpressionNode) =
      arguments_by (expression_at depth env flags) args t.args []
      (count_arguments t name.text (count_expressions args) place (use_term flags t name.text place s)) in
      map_some (λ _. Unit {0}) (Fits (term_expression name args place)) o _ (any_some o) (λ m _. (t, is, refl))

  closed : (defs : LetList) (body : Expression) (place : Pos) (count : ℕ) (vars : List TypedLetNode) (m : Typing TypedExpressionNode) → Fits body m →
      Fits (let_expression defs body place) (close count vars m)
  closed defs body place count vars m h = map_some (λ x. HasOwnType env body (type_of_expression x)) _ m.typed _ h (λ x is. is)

  pub own_type : (depth : ℕ) (e : Expression) (s : ProgressNode) → IfSome (expression_at depth env flags e None s) (Fits e)
  own_type zero e s = tt
  own_type (suc depth) (term_expression name args place) s = term depth name args place s (env.terms name.text) refl
  own_type (suc depth) (var_expression name place) s = variable depth name place s (find s.bound name.text)
  own_type (suc depth) (bool_expression val place) s = refl
  own_type (suc depth) (int_expression val place) s = tt
  own_type (suc depth) (constant_expression name place) s = constant name place s (env.constants name.text) refl
  own_type (suc depth) (let_expression defs body place) s =
      let o : Option (Typings TypedLetNode) = lets_by (expression_at depth env flags) env place defs [] s in
      then_some (λ _. Unit {0}) (Fits (let_expression defs body place)) o _ (any_some o)
      (λ ds _ _. map_some (Fits body) (Fits (let_expression defs body place)) (expression_at depth env flags body None ds.after) (close (length s.bound) ds.typed)
      (own_type depth body ds.after) (closed defs body place (length s.bound) ds.typed))
