-- The typed expressions of code, as pure values.
use Rattle.std.specs.Prelude.{codes}
use Rattle.isle_check_typing.specs.expressions.TypedExpressions.{TypedExpressionNode, typed_var_expression, typed_bool_expression, typed_int_expression, typed_const_expression, typed_term_expression, typed_let_expression, TypedLetNode, typed_expression_list, typed_let_list}
use Rattle.isle_check_typing.specs.declared.expressions.typed.TypedExpression.{TypedExpression}
use Rattle.isle_check_typing.specs.declared.expressions.typed.TypedExpression.TheOpen.{TypedExpression-F, TypedLet-F}
use Rattle.isle_check_typing.specs.declared.expressions.typed.TypedExpression.TheFolds.{fold-TypedExpression, fold-TypedLet}
use Rattle.isle_check_typing.specs.declared.expressions.typed.TypedLet.{TypedLet}

-- one node, with its parts as pure values
abbrev pub typed_expression_step : TypedExpression-F TypedExpressionNode TypedLetNode → TypedExpressionNode
typed_expression_step (TypedExpression-F.Var variable ty) = typed_var_expression variable ty.now
typed_expression_step (TypedExpression-F.Bool val) = typed_bool_expression val (codes "bool")
typed_expression_step (TypedExpression-F.Int val ty) = typed_int_expression val ty.now
typed_expression_step (TypedExpression-F.Const name ty) = typed_const_expression name.now ty.now
typed_expression_step (TypedExpression-F.Term term ty args) =
    typed_term_expression term.now ty.now (typed_expression_list args.items)
typed_expression_step (TypedExpression-F.Let ty defs body) =
    typed_let_expression ty.now (typed_let_list defs.items) body.value

abbrev pub typed_let_step : TypedLet-F TypedExpressionNode TypedLetNode → TypedLetNode
typed_let_step d = record { variable = d.variable; val = d.val.value }

abbrev pub typed_expression_of : TypedExpression → TypedExpressionNode
typed_expression_of = fold-TypedExpression TypedExpressionNode TypedLetNode typed_expression_step typed_let_step

abbrev pub typed_let_of : TypedLet → TypedLetNode
typed_let_of = fold-TypedLet TypedExpressionNode TypedLetNode typed_expression_step typed_let_step
