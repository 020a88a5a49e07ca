-- Readers of names, alone and in lists.
use Rattle.std.specs.Prelude.{List, Option, Some, None, if◌then◌else◌}
use Rattle.isle_base.specs.Token.{is_symbol}
use Rattle.isle_ast_names.specs.Identifier.{is_identifier}
use Rattle.isle_ast_names.specs.Tree.{Name}
use Rattle.isle_parser_cursor.specs.Reading.{Reader, ◌>>=◌, is_ahead, text, pos_ahead, at_rparen, in_parentheses, many}

unfoldable pub name : Reader Name
name all = do
  t ← text all
  if is_identifier t.0 then Some (record { text = t.0; pos = pos_ahead all }, t.1) else None

-- an identifier, if a symbol is ahead
unfoldable pub optional_name : Reader (Option Name)
optional_name all = if is_ahead is_symbol all then (name all >>= λ n. Some (Some n.0, n.1)) else Some (None, all)

-- identifiers in parentheses
unfoldable pub names : Reader (List Name)
names = in_parentheses (many at_rparen name)

-- a term and its parameters
unfoldable pub head_inside : Reader (Name × List Name)
head_inside all = do
  term ← name all
  args ← many at_rparen name term.1
  Some ((term.0, args.0), args.1)
