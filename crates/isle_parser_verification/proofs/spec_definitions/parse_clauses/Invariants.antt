use Rattle.std.proofs.Common.{◌≡◌, length, map}
use Rattle.isle_ast_verification.specs.TreeView.{modified_of, specs_of}
use Rattle.isle_parser_cursor.specs.Outcomes.{left, source}
use Rattle.isle_parser_verification.specs.SpecDefinitionReaders.{clause, joined_clauses}
use Rattle.isle_parser_cursor.specs.Reading.{at_rparen, many}
use Rattle.isle_parser_verification.proofs.Reading.Clauses.{behind_joined}
use Rattle.isle_parser_verification.proofs.spec_definitions.parse_clauses.Given as goal

-- what was said, with what is still read, is what all clauses say
abbrev pub invariant-loop-alloc : goal.invariant-loop-alloc
invariant-loop-alloc l =
    record {
      same : source l.cursor ≡ source l.fn.cursor;
      so_far : behind_joined (record { provides = specs_of l.provides.items; requires_ = specs_of l.requires_.items; matches = specs_of l.matches.items; modifies = map modified_of l.modifies.items })
          (many at_rparen clause (left l.cursor)) ≡ joined_clauses (left l.fn.cursor);
    }

abbrev pub decreases-loop-alloc : goal.decreases-loop-alloc
decreases-loop-alloc l = length (left l.cursor)
