-- Readers of names of constants.
use Rattle.std.specs.Prelude.{[], ℕ, List, ◌∷◌, ◌==◌, Option, Some, None, if◌then◌else◌}
use Rattle.isle_ast_names.specs.Tree.{Name}
use Rattle.isle_parser_cursor.specs.Reading.{Reader, ◌>>=◌}
use Rattle.isle_parser_cursor.specs.NameReaders.{name}

-- the name of a constant without its `$`
abbrev pub behind_dollar : Name → Option Name
behind_dollar n = without_dollar n.text
  where
    without_dollar : List ℕ → Option Name
    without_dollar [] = None
    without_dollar (b ∷ bs) = if b == 36 then Some (record { text = bs; pos = n.pos }) else None

unfoldable pub constant : Reader Name
constant all = do
  whole ← name all
  n ← behind_dollar whole.0
  Some (n, whole.1)
