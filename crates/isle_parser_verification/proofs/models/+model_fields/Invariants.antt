use Rattle.std.proofs.Common.{◌≡◌, ◌+◌, ◌*◌, ◌≤◌, length, map}
use Rattle.isle_parser_cursor.specs.Outcomes.{left, source}
use Rattle.isle_parser_verification.specs.StructParts.{field, field_of}
use Rattle.isle_parser_cursor.specs.Reading.{at_rparen, many}
use Rattle.isle_parser_cursor.proofs.Loops.{behind_front}
use Rattle.isle_parser_verification.proofs.models.+model_fields.Given as goal

abbrev pub decreases-parse_model_fields : goal.decreases-parse_model_fields
decreases-parse_model_fields l = 2 * length (left l.cursor.now) + 1

abbrev pub decreases-append_model_field : goal.decreases-append_model_field
decreases-append_model_field l = 2 * length (left l.cursor.now)

-- what was read, with what is still read, is the whole list
abbrev pub invariant-parse_model_fields-loop-alloc : goal.invariant-parse_model_fields-loop-alloc
invariant-parse_model_fields-loop-alloc l =
    record {
      same : source l.cursor ≡ source l.fn.cursor;
      so_far : behind_front (map field_of l.fields.items) (many at_rparen field (left l.cursor)) ≡ many at_rparen field (left l.fn.cursor);
      shorter : length (left l.cursor) ≤ length (left l.fn.cursor);
    }

abbrev pub decreases-parse_model_fields-loop-alloc : goal.decreases-parse_model_fields-loop-alloc
decreases-parse_model_fields-loop-alloc l = length (left l.cursor)
