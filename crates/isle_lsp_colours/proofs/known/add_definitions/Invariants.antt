use Rattle.std.proofs.Common.{length}
use Rattle.isle_parser_cursor.specs.Outcomes.{tokens}
use Rattle.isle_lsp_colours.proofs.Gathering.{ReadsOn}
use Rattle.isle_lsp_colours.proofs.known.add_definitions.Given as goal

abbrev pub invariant-loop-def : goal.invariant-loop-def
invariant-loop-def l = ReadsOn l.initial.parser l.parser l.fn.classes l.classes l.count

abbrev pub decreases-loop-def : goal.decreases-loop-def
decreases-loop-def l = length (tokens l.parser.cursor)
