use Rattle.std.proofs.Common.{◌≡◌, ◌⊎◌, length}
use Rattle.isle_ast.specs.TreeView.{definitions_of}
use Rattle.isle_base.specs.Steps.{Rises, is_failed}
use Rattle.isle_parser.specs.DefinitionReaders.{definition, definitions}
use Rattle.isle_parser.specs.NextDefinition.{has_failed}
use Rattle.isle_parser_cursor.specs.Outcomes.{source, tokens}
use Rattle.isle_parser_cursor.specs.Reading.{ends, many}
use Rattle.isle_parser_cursor.proofs.Loops.{behind_front}
use Rattle.isle_parser.proofs.parser.Parser.parse_all.Given as goal

-- What was read, with what is still read, is the whole list. The tokens rise from the first call on.
abbrev pub invariant-loop-defs : goal.invariant-loop-defs
invariant-loop-defs l =
    record {
      same : source l.self.cursor ≡ source l.fn.self.cursor;
      so_far : behind_front (definitions_of l.defs.items) (many ends definition (tokens l.self.cursor)) ≡ definitions (tokens l.fn.self.cursor);
      fails_with : has_failed l.self ≡ is_failed l.fn.self.cursor.scanner;
      rising : (l.self ≡ l.fn.self) ⊎ Rises 0 l.fn.self.cursor.scanner.coming;
    }

abbrev pub decreases-loop-defs : goal.decreases-loop-defs
decreases-loop-defs l = length (tokens l.self.cursor)
