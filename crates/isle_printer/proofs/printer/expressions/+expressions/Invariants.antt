-- The nodes on the tape are the last ones.
use Rattle.std.proofs.Common.{◌≡◌, drop}
use Rattle.isle_ast_rules.specs.TreeView.{expression_list_of, expressions_of, let_list_of, single_lets_of}
use Rattle.isle_printer_layout.specs.Pieces.{put_before}
use Rattle.isle_printer.specs.RuleShapes.{expression_shapes, let_shapes}
use Rattle.isle_printer.proofs.printer.expressions.+expressions.Given as goal

abbrev pub invariant-each_expression-loop-at : goal.invariant-each_expression-loop-at
invariant-each_expression-loop-at l =
    l.tape ≡ put_before (expression_shapes (expression_list_of (expressions_of (drop l.at l.nodes.items)))) l.fn.tape

abbrev pub invariant-each_let_definition-loop-at : goal.invariant-each_let_definition-loop-at
invariant-each_let_definition-loop-at l =
    l.tape ≡ put_before (let_shapes (let_list_of (single_lets_of (drop l.at l.nodes.items)))) l.fn.tape
