-- The node that is read, after the nodes read before.
use Rattle.std.specs.Prelude.{List, [], ◌∷◌, ◌++◌, Some}
use Rattle.isle_parser_cursor.specs.Reading.{Reader, ◌>>=◌}

-- one more node after these
unfoldable pub appended : {A : Type 0} → Reader A → List A → Reader (List A)
appended read front all = do
  x ← read all
  Some (front ++ x.0 ∷ [], x.1)
