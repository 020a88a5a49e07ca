use Rattle.std.proofs.Common.{◌≡◌, length, map}
use Rattle.isle_ast.specs.TreeView.{indexed_field_of}
use Rattle.isle_parser_cursor.specs.Outcomes.{left, source}
use Rattle.isle_parser_cursor.specs.NameReaders.{name}
use Rattle.isle_parser.specs.TypeReaders.{numbered}
use Rattle.isle_parser_cursor.specs.Reading.{at_rparen, many}
use Rattle.isle_parser_cursor.proofs.Loops.{behind_front}
use Rattle.isle_parser.proofs.Lists.{type_name}
use Rattle.isle_parser.proofs.parser.types.parse_tuple_fields.Given as goal

-- what was read, with what is still read, is the whole list, and the fields are counted from 0
abbrev pub invariant-loop-alloc : goal.invariant-loop-alloc
invariant-loop-alloc l =
    record {
      same : source l.cursor ≡ source l.fn.cursor;
      so_far : behind_front (map type_name l.fields.items) (many at_rparen name (left l.cursor)) ≡ many at_rparen name (left l.fn.cursor);
      counted : map indexed_field_of l.fields.items ≡ numbered 0 (map type_name l.fields.items);
    }

abbrev pub decreases-loop-alloc : goal.decreases-loop-alloc
decreases-loop-alloc l = length (left l.cursor)
