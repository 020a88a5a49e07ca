use Rattle.std.proofs.Common.{◌≡◌, length}
use Rattle.isle_parser_cursor.specs.Outcomes.{left, source}
use Rattle.isle_parser.proofs.Lists.{ModifiersSoFar}
use Rattle.isle_parser.proofs.parser.types.parse_modifiers.Given as goal

-- what was read, with what is still read, is the whole list, and each word so far has set its flag
abbrev pub invariant-loop-alloc : goal.invariant-loop-alloc
invariant-loop-alloc l =
    record {
      same : source l.cursor ≡ source l.fn.cursor;
      so_far : ModifiersSoFar l.is_extern l.is_nodebug (left l.fn.cursor) (left l.cursor);
    }

abbrev pub decreases-loop-alloc : goal.decreases-loop-alloc
decreases-loop-alloc l = length (left l.cursor)
