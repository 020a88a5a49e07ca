-- Each definition takes tokens.
use Rattle.std.proofs.Common.{length}
use Rattle.isle_parser_cursor.specs.Outcomes.{tokens}
use Rattle.isle_syntax.proofs.ReadingLaw.{HasRead}
use Rattle.isle_syntax.proofs.trees.read_all.Given as goal

abbrev pub invariant-loop : goal.invariant-loop
invariant-loop l = HasRead l.fn.parser l.parser

abbrev pub decreases-loop : goal.decreases-loop
decreases-loop l = length (tokens l.parser.cursor)
