use Rattle.std.proofs.Common.{◌≡◌, ◌++◌, drop}
use Rattle.isle_ast_rules.specs.TreeView.{expression_list_of, expressions_of, let_list_of, single_lets_of}
use Rattle.isle_resolve.specs.EventView.{events_of}
use Rattle.isle_resolve.specs.Events.{expression_list_events, let_events}
use Rattle.isle_resolve.proofs.rules.+expression_events.Given as goal

abbrev pub invariant-add_expressions-loop-expr : goal.invariant-add_expressions-loop-expr
invariant-add_expressions-loop-expr l =
    events_of l.found.items ++ expression_list_events (expression_list_of (expressions_of (drop l.expr-index l.expr-items)))
    ≡ events_of l.fn.found.items ++ expression_list_events (expression_list_of (expressions_of l.expr-items))

abbrev pub invariant-add_lets-loop-def : goal.invariant-add_lets-loop-def
invariant-add_lets-loop-def l =
    events_of l.found.items ++ let_events (let_list_of (single_lets_of (drop l.def-index l.def-items)))
    ≡ events_of l.fn.found.items ++ let_events (let_list_of (single_lets_of l.def-items))
