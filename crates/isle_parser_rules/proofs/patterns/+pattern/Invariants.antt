use Rattle.std.proofs.Common.{◌≡◌, ◌+◌, ◌*◌, ◌≤◌, length}
use Rattle.isle_ast_rules.specs.TreeView.{patterns_of}
use Rattle.isle_parser_cursor.specs.Outcomes.{left, source}
use Rattle.isle_parser_rules.specs.PatternReaders.{pattern}
use Rattle.isle_parser_cursor.specs.Reading.{at_rparen, many}
use Rattle.isle_parser_cursor.proofs.Loops.{behind_front}
use Rattle.isle_parser_rules.proofs.patterns.+pattern.Given as goal

abbrev pub decreases-parse_pattern : goal.decreases-parse_pattern
decreases-parse_pattern l = 5 * length (left l.cursor.now) + 2

abbrev pub decreases-parse_pattern_parens : goal.decreases-parse_pattern_parens
decreases-parse_pattern_parens l = 5 * length (left l.cursor.now) + 1

abbrev pub decreases-parse_pattern_symbol : goal.decreases-parse_pattern_symbol
decreases-parse_pattern_symbol l = 5 * length (left l.cursor.now) + 1

abbrev pub decreases-parse_pattern_variable : goal.decreases-parse_pattern_variable
decreases-parse_pattern_variable l = 5 * length (left l.cursor.now)

abbrev pub decreases-parse_patterns : goal.decreases-parse_patterns
decreases-parse_patterns l = 5 * length (left l.cursor.now) + 5

abbrev pub decreases-append_pattern : goal.decreases-append_pattern
decreases-append_pattern l = 5 * length (left l.cursor.now) + 4

abbrev pub decreases-append_single_pattern : goal.decreases-append_single_pattern
decreases-append_single_pattern l = 5 * length (left l.cursor.now) + 3

-- what was read, with what is still read, is the whole list
abbrev pub invariant-parse_patterns-loop-alloc : goal.invariant-parse_patterns-loop-alloc
invariant-parse_patterns-loop-alloc l =
    record {
      same : source l.cursor ≡ source l.fn.cursor;
      so_far : behind_front (patterns_of l.patterns.items) (many at_rparen pattern (left l.cursor)) ≡ many at_rparen pattern (left l.fn.cursor);
      shorter : length (left l.cursor) ≤ length (left l.fn.cursor);
    }

abbrev pub decreases-parse_patterns-loop-alloc : goal.decreases-parse_patterns-loop-alloc
decreases-parse_patterns-loop-alloc l = length (left l.cursor)
