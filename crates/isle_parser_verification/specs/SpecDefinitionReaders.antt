-- Readers of definitions made of spec expressions, after the keywords `spec`, `macro` and `state`.
use Rattle.std.specs.Prelude.{ℕ, List, Some, None, if◌then◌else◌, codes}
use Rattle.std.specs.Str.{bytes_eq}
use Rattle.isle_ast_verification.specs.Tree.{SpecNode, ModifiedState, SpecDefinition, SpecMacroDefinition, StateDefinition}
use Rattle.isle_ast_verification.specs.SpecDefinitionGrammar.{SpecClause, provide_clause, require_clause, match_clause, modifies_clause, provided, required, matched, modified}
use Rattle.isle_parser_cursor.specs.Reading.{Reader, ◌>>=◌, text, flag, pos_ahead, at_rparen, in_parentheses, many}
use Rattle.isle_parser_verification.specs.ModelReaders.{tagged_type}
use Rattle.isle_parser_cursor.specs.NameReaders.{name, optional_name, head_inside}
use Rattle.isle_parser_verification.specs.SpecReaders.{spec_expression}

-- a state, and the name of a condition if there is one
unfoldable pub modified_state : Reader ModifiedState
modified_state all = do
  state ← name all
  cond ← optional_name state.1
  Some (record { state = state.0; cond = cond.0 }, cond.1)

-- the rest of a clause after its word
unfoldable pub behind_clause_word : List ℕ → Reader SpecClause
behind_clause_word word all =
    if bytes_eq word (codes "provide") then (many at_rparen spec_expression all >>= λ xs. Some (provide_clause xs.0, xs.1))
    else (if bytes_eq word (codes "require") then (many at_rparen spec_expression all >>= λ xs. Some (require_clause xs.0, xs.1))
    else (if bytes_eq word (codes "match") then (many at_rparen spec_expression all >>= λ xs. Some (match_clause xs.0, xs.1))
    else (if bytes_eq word (codes "modifies") then (modified_state all >>= λ m. Some (modifies_clause m.0, m.1))
    else None)))

unfoldable pub clause_inside : Reader SpecClause
clause_inside all = do
  word ← text all
  behind_clause_word word.0 word.1

unfoldable pub clause : Reader SpecClause
clause = in_parentheses clause_inside

-- the contents of clauses, joined by kind
pub record Joined : Type 0 where
  pub provides : List SpecNode
  pub requires_ : List SpecNode
  pub matches : List SpecNode
  pub modifies : List ModifiedState

abbrev pub joined : List SpecClause → Joined
joined clauses =
    record { provides = provided clauses; requires_ = required clauses; matches = matched clauses; modifies = modified clauses }

-- clauses, joined
abbrev pub joined_clauses : Reader Joined
joined_clauses all = many at_rparen clause all >>= λ clauses. Some (joined clauses.0, clauses.1)

unfoldable pub spec_definition : Reader SpecDefinition
spec_definition all = do
  head ← in_parentheses head_inside all
  clauses ← many at_rparen clause head.1
  Some (
    record {
      term = head.0.0;
      args = head.0.1;
      provides = provided clauses.0;
      requires_ = required clauses.0;
      matches = matched clauses.0;
      modifies = modified clauses.0;
      pos = pos_ahead all;
    },
    clauses.1,
  )

unfoldable pub spec_macro_definition : Reader SpecMacroDefinition
spec_macro_definition all = do
  head ← in_parentheses head_inside all
  body ← spec_expression head.1
  Some (record { name = head.0.0; params = head.0.1; body = body.0; pos = pos_ahead all }, body.1)

-- a word and an expression
unfoldable pub default_inside : Reader SpecNode
default_inside all = do
  word ← flag (codes "default") all
  if word.0 then spec_expression word.1 else None

unfoldable pub state_definition : Reader StateDefinition
state_definition all = do
  n ← name all
  ty ← tagged_type (codes "type") n.1
  default ← in_parentheses default_inside ty.1
  Some (record { name = n.0; ty = ty.0; default = default.0; pos = pos_ahead all }, default.1)
