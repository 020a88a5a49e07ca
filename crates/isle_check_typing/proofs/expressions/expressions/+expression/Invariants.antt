use Rattle.std.proofs.Common.{◌≡◌, ◌+◌, ◌*◌, [], drop, map, string_bytes}
use Rattle.isle_ast_rules.specs.TreeView.{expression_list_of, expressions_of, let_list_of, single_lets_of}
use Rattle.isle_check_environment.specs.signatures.Views.{environment_of}
use Rattle.isle_check_typing.specs.Views.{progress_of}
use Rattle.isle_check_typing.specs.expressions.ExpressionTypes.{arguments_by, lets_by}
use Rattle.isle_check_typing.specs.expressions.TypedView.{typed_expression_of, typed_let_of}
use Rattle.isle_check_typing.specs.expressions.Views.{parts_by}
use Rattle.isle_check_typing.proofs.expressions.expressions.+expression.Given as goal

abbrev pub invariant-type_arguments-loop-number : goal.invariant-type_arguments-loop-number
invariant-type_arguments-loop-number l =
    arguments_by (parts_by l.typer) (expression_list_of (expressions_of (drop l.number l.exprs))) (map string_bytes (drop l.number l.types.items)) (map typed_expression_of l.typed.items) (progress_of l.progress)
    ≡ arguments_by (parts_by l.typer) (expression_list_of (expressions_of l.exprs)) (map string_bytes l.types.items) [] (progress_of l.fn.progress)

abbrev pub invariant-type_lets-loop-def : goal.invariant-type_lets-loop-def
invariant-type_lets-loop-def l =
    lets_by (parts_by l.typer) (environment_of l.typer.env.now) l.pos (let_list_of (single_lets_of (drop l.def-index l.def-items))) (map typed_let_of l.typed.items) (progress_of l.progress)
    ≡ lets_by (parts_by l.typer) (environment_of l.typer.env.now) l.pos (let_list_of (single_lets_of l.def-items)) [] (progress_of l.fn.progress)

abbrev pub decreases-type_expression : goal.decreases-type_expression
decreases-type_expression l = 8 * l.depth

abbrev pub decreases-type_part : goal.decreases-type_part
decreases-type_part l = 8 * l.typer.depth + 1

abbrev pub decreases-type_copied : goal.decreases-type_copied
decreases-type_copied l = 8 * l.typer.depth + 2

abbrev pub decreases-type_put : goal.decreases-type_put
decreases-type_put l = 8 * l.typer.depth + 3

abbrev pub decreases-type_arguments : goal.decreases-type_arguments
decreases-type_arguments l = 8 * l.typer.depth + 2

abbrev pub decreases-type_let_def : goal.decreases-type_let_def
decreases-type_let_def l = 8 * l.typer.depth + 2

abbrev pub decreases-type_lets : goal.decreases-type_lets
decreases-type_lets l = 8 * l.typer.depth + 3

abbrev pub decreases-type_own : goal.decreases-type_own
decreases-type_own l = 8 * l.typer.depth + 3

abbrev pub decreases-type_variable : goal.decreases-type_variable
decreases-type_variable l = 8 * l.typer.depth + 4

abbrev pub decreases-type_let : goal.decreases-type_let
decreases-type_let l = 8 * l.typer.depth + 4

abbrev pub decreases-type_term_as : goal.decreases-type_term_as
decreases-type_term_as l = 8 * l.typer.depth + 4

abbrev pub decreases-type_term : goal.decreases-type_term
decreases-type_term l = 8 * l.typer.depth + 5

abbrev pub decreases-type_step : goal.decreases-type_step
decreases-type_step l = 8 * l.typer.depth + 6
