use Rattle.std.proofs.Common.{◌∙◌, sym, ap}
use Rattle.std.specs.Prelude.{unwrap_or}
use Rattle.isle_tidy_layout.specs.Placing.{usual_column}
use Rattle.isle_tidy_layout.proofs.Stacks.{on_argument, on_step, on_else}
use Rattle.isle_tidy_layout.proofs.stack.first_line.Goals as goal

pub returns-in-Some : goal.returns-in-Some
returns-in-Some c = sym (on_argument c.args.list.now c.args.arguments.now c.args.column c.in-Some.result (sym c.in-Some.ensures))

pub returns-in-Some-by_parenthesis : goal.returns-in-Some-by_parenthesis
returns-in-Some-by_parenthesis c =
    sym (on_step c.args.list.now c.args.arguments.now c.args.column c.in-Some-by_parenthesis.result (sym c.in_default.ensures) (sym c.in-Some-by_parenthesis.ensures))

pub returns-in-Some-by_line : goal.returns-in-Some-by_line
returns-in-Some-by_line c =
    sym (on_else c.args.list.now c.args.arguments.now c.args.column (sym c.in_default.ensures) (sym c.in_default-by_parenthesis.ensures)
    ∙ ap (λ o. unwrap_or o (usual_column c.args.list.now.head c.args.list.now.parenthesis c.args.arguments.now)) (sym c.in-Some-by_line.ensures))

pub returns : goal.returns
returns c =
    c.usual_column.ensures
    ∙ sym (on_else c.args.list.now c.args.arguments.now c.args.column (sym c.in_default.ensures) (sym c.in_default-by_parenthesis.ensures)
    ∙ ap (λ o. unwrap_or o (usual_column c.args.list.now.head c.args.list.now.parenthesis c.args.arguments.now)) (sym c.in_default-by_line.ensures))
