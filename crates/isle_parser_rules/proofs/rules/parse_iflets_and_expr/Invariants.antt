use Rattle.std.proofs.Common.{◌≡◌, length}
use Rattle.isle_ast_rules.specs.TreeView.{conditions_of}
use Rattle.isle_parser_cursor.specs.Outcomes.{left, source}
use Rattle.isle_parser_rules.specs.RuleReaders.{right_side}
use Rattle.isle_parser_rules.proofs.RightSides.{behind_conditions}
use Rattle.isle_parser_rules.proofs.rules.parse_iflets_and_expr.Given as goal

-- the conditions that were read, with what is still read, are the whole right side
abbrev pub invariant-loop-iflets : goal.invariant-loop-iflets
invariant-loop-iflets l =
    record {
      same : source l.cursor ≡ source l.fn.cursor;
      so_far : behind_conditions (conditions_of l.iflets.items) (right_side (left l.cursor)) ≡ right_side (left l.fn.cursor);
    }

abbrev pub decreases-loop-iflets : goal.decreases-loop-iflets
decreases-loop-iflets l = length (left l.cursor)
