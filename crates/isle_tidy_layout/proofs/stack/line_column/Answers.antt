use Rattle.std.proofs.Common.{◌∙◌, sym, ap, length}
use Rattle.std.proofs.lemmas.Bool.{eqb-true}
use Rattle.isle_tidy_layout.specs.Placing.{line_column}
use Rattle.isle_tidy_layout.proofs.Stacks.{top_column, empty}
use Rattle.isle_tidy_layout.proofs.stack.line_column.Goals as goal

pub returns-then-is_empty : goal.returns-then-is_empty
returns-then-is_empty c = λ ls s.
    let none = eqb-true (length c.args.lists.now) 0 (sym c.is_empty.ensures ∙ c.if-is_empty.true) in
    sym (ap (λ xs. line_column xs c.args.column) (empty ls c.args.lists.now c.args.arguments.now s none))

pub list_column-requires-clause-within : goal.list_column-requires-clause-within
list_column-requires-clause-within c = (c.innermost-list.ensures.top c.requires.0 c.args.arguments.now c.requires.1).2

pub list_column-requires-clause-parenthesis : goal.list_column-requires-clause-parenthesis
list_column-requires-clause-parenthesis c = (c.innermost-list.ensures.top c.requires.0 c.args.arguments.now c.requires.1).3

pub list_column-requires-clause-line : goal.list_column-requires-clause-line
list_column-requires-clause-line c = (c.innermost-list.ensures.top c.requires.0 c.args.arguments.now c.requires.1).4

pub returns : goal.returns
returns c = λ ls s. top_column ls c.args.arguments.now c.innermost-list.result c.args.column c.list_column.result (c.innermost-list.ensures.top ls c.args.arguments.now s) c.list_column.ensures
