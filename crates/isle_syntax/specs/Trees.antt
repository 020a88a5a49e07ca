-- The tree of a text.
use Rattle.std.specs.Prelude.{◌≡◌, ℕ, List}
use Rattle.isle_base.specs.Place.{in_file}
use Rattle.isle_ast.specs.Spelt.{IsSpelt}
use Rattle.isle_ast.specs.Tree.{Definition}

-- the text spells this tree, with the positions of its tokens, and no other
pub record IsTreeOf (text : List ℕ) (tree : List Definition) : Type 0 where
  pub spelt : IsSpelt (in_file 0) text tree
  pub only : (ds : List Definition) → IsSpelt (in_file 0) text ds → ds ≡ tree
