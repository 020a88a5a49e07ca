use Rattle.std.proofs.Common.{◌≡◌, ◌++◌, drop}
use Rattle.std.specs.List.{filter}
use Rattle.isle_ast_rules.specs.TermHeads.{expression_list_heads, let_list_heads}
use Rattle.isle_ast_rules.specs.TreeView.{expression_list_of, expressions_of, let_list_of, single_lets_of}
use Rattle.isle_check_environment.specs.signatures.Views.{environment_of}
use Rattle.isle_check_rules.specs.Constructors.{lacks_constructor}
use Rattle.isle_check_rules.specs.Views.{heads_at}
use Rattle.isle_check_rules.proofs.constructors.+expression.Given as goal

abbrev pub invariant-add_of_each-loop-expr : goal.invariant-add_of_each-loop-expr
invariant-add_of_each-loop-expr l =
    heads_at l.found.items
    ++ filter (lacks_constructor (environment_of l.env)) (expression_list_heads (expression_list_of (expressions_of (drop l.expr-index l.expr-items))))
    ≡ heads_at l.fn.found.items
    ++ filter (lacks_constructor (environment_of l.env)) (expression_list_heads (expression_list_of (expressions_of l.expr-items)))

abbrev pub invariant-add_of_values-loop-def : goal.invariant-add_of_values-loop-def
invariant-add_of_values-loop-def l =
    heads_at l.found.items
    ++ filter (lacks_constructor (environment_of l.env)) (let_list_heads (let_list_of (single_lets_of (drop l.def-index l.def-items))))
    ≡ heads_at l.fn.found.items
    ++ filter (lacks_constructor (environment_of l.env)) (let_list_heads (let_list_of (single_lets_of l.def-items)))
