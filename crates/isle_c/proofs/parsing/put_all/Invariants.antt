-- The definitions that were read so far are put. Each one takes tokens.
use Rattle.std.proofs.Common.{length, string_bytes}
use Rattle.isle_parser_cursor.specs.Outcomes.{tokens}
use Rattle.isle_c.proofs.ParsingLaw.{HasPut}
use Rattle.isle_c.proofs.parsing.put_all.Given as goal

abbrev pub invariant-loop : goal.invariant-loop
invariant-loop l = HasPut l.fn.parser l.parser (string_bytes l.fn.answer) (string_bytes l.answer)

abbrev pub decreases-loop : goal.decreases-loop
decreases-loop l = length (tokens l.parser.cursor)
