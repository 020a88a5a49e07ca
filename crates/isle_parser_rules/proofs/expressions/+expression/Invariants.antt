use Rattle.std.proofs.Common.{◌≡◌, ◌+◌, ◌*◌, ◌≤◌, length}
use Rattle.isle_ast_rules.specs.TreeView.{expressions_of, single_lets_of}
use Rattle.isle_parser_cursor.specs.Outcomes.{left, source}
use Rattle.isle_parser_rules.specs.ExpressionReaders.{expression, let_definition}
use Rattle.isle_parser_cursor.specs.Reading.{at_rparen, many}
use Rattle.isle_parser_cursor.proofs.Loops.{behind_front}
use Rattle.isle_parser_rules.proofs.expressions.+expression.Given as goal

abbrev pub decreases-parse_expr : goal.decreases-parse_expr
decreases-parse_expr l = 3 * length (left l.cursor.now)

abbrev pub decreases-parse_let : goal.decreases-parse_let
decreases-parse_let l = 3 * length (left l.cursor.now) + 1

abbrev pub decreases-parse_term : goal.decreases-parse_term
decreases-parse_term l = 3 * length (left l.cursor.now) + 1

abbrev pub decreases-parse_exprs : goal.decreases-parse_exprs
decreases-parse_exprs l = 3 * length (left l.cursor.now) + 1

abbrev pub decreases-parse_letdef : goal.decreases-parse_letdef
decreases-parse_letdef l = 3 * length (left l.cursor.now)

abbrev pub decreases-parse_letdef_list : goal.decreases-parse_letdef_list
decreases-parse_letdef_list l = 3 * length (left l.cursor.now) + 1

abbrev pub decreases-parse_letdefs : goal.decreases-parse_letdefs
decreases-parse_letdefs l = 3 * length (left l.cursor.now)

-- what was read, with what is still read, is the whole list
abbrev pub invariant-parse_exprs-loop-alloc : goal.invariant-parse_exprs-loop-alloc
invariant-parse_exprs-loop-alloc l =
    record {
      same : source l.cursor ≡ source l.fn.cursor;
      so_far : behind_front (expressions_of l.exprs.items) (many at_rparen expression (left l.cursor)) ≡ many at_rparen expression (left l.fn.cursor);
      shorter : length (left l.cursor) ≤ length (left l.fn.cursor);
    }

abbrev pub decreases-parse_exprs-loop-alloc : goal.decreases-parse_exprs-loop-alloc
decreases-parse_exprs-loop-alloc l = length (left l.cursor)

abbrev pub invariant-parse_letdef_list-loop-alloc : goal.invariant-parse_letdef_list-loop-alloc
invariant-parse_letdef_list-loop-alloc l =
    record {
      same : source l.cursor ≡ source l.fn.cursor;
      so_far : behind_front (single_lets_of l.defs.items) (many at_rparen (let_definition expression) (left l.cursor)) ≡ many at_rparen (let_definition expression) (left l.fn.cursor);
      shorter : length (left l.cursor) ≤ length (left l.fn.cursor);
    }

abbrev pub decreases-parse_letdef_list-loop-alloc : goal.decreases-parse_letdef_list-loop-alloc
decreases-parse_letdef_list-loop-alloc l = length (left l.cursor)
