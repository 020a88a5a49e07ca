use Rattle.std.proofs.Common.{◌≡◌, length}
use Rattle.std.specs.Prelude.{map}
use Rattle.isle_ast.specs.TreeView.{kind_of}
use Rattle.isle_parser_cursor.specs.Outcomes.{left, source}
use Rattle.isle_parser.specs.TermReaders.{kind}
use Rattle.isle_parser_cursor.specs.Reading.{at_rparen, many}
use Rattle.isle_parser_cursor.proofs.Loops.{behind_front}
use Rattle.isle_parser.proofs.parser.terms.parse_attr_kinds.Given as goal

-- what was read, with what is still read, is the whole list
abbrev pub invariant-loop-alloc : goal.invariant-loop-alloc
invariant-loop-alloc l =
    record {
      same : source l.cursor ≡ source l.fn.cursor;
      so_far : behind_front (map kind_of l.kinds.items) (many at_rparen kind (left l.cursor)) ≡ many at_rparen kind (left l.fn.cursor);
    }

abbrev pub decreases-loop-alloc : goal.decreases-loop-alloc
decreases-loop-alloc l = length (left l.cursor)
