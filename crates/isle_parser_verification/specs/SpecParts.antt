-- The parts that code reads separately: the cases of a `switch`, and the clauses of a spec as pure
-- values.
use Rattle.std.specs.Prelude.{List, ◌∷◌, Some, map}
use Rattle.isle_ast_verification.specs.TreeView.{modified_of, specs_of}
use Rattle.isle_ast_verification.specs.Tree.{SpecNode}
use Rattle.isle_ast_verification.specs.SpecDefinitionGrammar.{SpecClause, provide_clause, require_clause, match_clause, modifies_clause}
use Rattle.isle_parser_verification.specs.declared.spec_definitions.Clause.{Clause}
use Rattle.isle_parser_verification.specs.declared.spec_definitions.Clauses.{Clauses}
use Rattle.isle_parser_cursor.specs.Reading.{Reader, ◌>>=◌, at_rparen, many}
use Rattle.isle_parser_verification.specs.SpecDefinitionReaders.{Joined}
use Rattle.isle_parser_verification.specs.SpecReaders.{spec_expression, spec_pair}
use Rattle.isle_parser_verification.specs.declared.spec_definitions.Clause.TheVariants as clauses

-- the cases of a `switch`, after its subject
abbrev pub cases_behind : SpecNode → Reader (List SpecNode)
cases_behind subject all = many at_rparen (spec_pair spec_expression) all >>= λ cases. Some (subject ∷ cases.0, cases.1)

abbrev pub clause_of : Clause → SpecClause
clause_of (clauses.Provide xs) = provide_clause (specs_of xs.items)
clause_of (clauses.Require xs) = require_clause (specs_of xs.items)
clause_of (clauses.Match xs) = match_clause (specs_of xs.items)
clause_of (clauses.Modifies m) = modifies_clause (modified_of m)

abbrev pub joined_of : Clauses → Joined
joined_of cs =
    record {
      provides = specs_of cs.provides.items;
      requires_ = specs_of cs.requires_.items;
      matches = specs_of cs.matches.items;
      modifies = map modified_of cs.modifies.items;
    }
