use Rattle.std.proofs.Common.{◌≡◌, length}
use Rattle.std.specs.Prelude.{map}
use Rattle.isle_ast_verification.specs.TreeView.{type_model_of}
use Rattle.isle_parser_cursor.specs.Outcomes.{left, source}
use Rattle.isle_parser_verification.specs.ModelReaders.{model_type}
use Rattle.isle_parser_cursor.specs.Reading.{at_rparen, many}
use Rattle.isle_parser_cursor.proofs.Loops.{behind_front}
use Rattle.isle_parser_verification.proofs.models.parse_model_types.Given as goal

-- what was read, with what is still read, is the whole list
abbrev pub invariant-loop-alloc : goal.invariant-loop-alloc
invariant-loop-alloc l =
    record {
      same : source l.cursor ≡ source l.fn.cursor;
      so_far : behind_front (map type_model_of l.params.items) (many at_rparen model_type (left l.cursor)) ≡ many at_rparen model_type (left l.fn.cursor);
    }

abbrev pub decreases-loop-alloc : goal.decreases-loop-alloc
decreases-loop-alloc l = length (left l.cursor)
