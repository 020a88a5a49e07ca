use Rattle.std.proofs.Common.{◌≡◌, length}
use Rattle.isle_ast_names.specs.TreeView.{names_of}
use Rattle.isle_parser_cursor.specs.Outcomes.{left, source}
use Rattle.isle_parser_cursor.specs.NameReaders.{name}
use Rattle.isle_parser_cursor.specs.Reading.{at_rparen, many}
use Rattle.isle_parser_cursor.proofs.Loops.{behind_front}
use Rattle.isle_parser_cursor.proofs.cursor.Cursor.parse_ident_list.Given as goal

-- what was read, with what is still read, is the whole list
abbrev pub invariant-loop-alloc : goal.invariant-loop-alloc
invariant-loop-alloc l =
    record {
      same : source l.self ≡ source l.fn.self;
      so_far : behind_front (names_of l.idents.items) (many at_rparen name (left l.self)) ≡ many at_rparen name (left l.fn.self);
    }

abbrev pub decreases-loop-alloc : goal.decreases-loop-alloc
decreases-loop-alloc l = length (left l.self)
