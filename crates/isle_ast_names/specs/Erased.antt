-- Names and tokens erased: each position becomes the default one, which stands for an unknown
-- position.
use Rattle.std.specs.Prelude.{List, map, Option, None, Some}
use Rattle.isle_base.specs.Place.{unknown, Placed}
use Rattle.isle_ast_names.specs.Tree.{Name}

abbrev pub erase_name : Name → Name
erase_name n = record n { pos = unknown }

abbrev pub erase_names : List Name → List Name
erase_names ns = map erase_name ns

abbrev pub erase_optional : Option Name → Option Name
erase_optional None = None
erase_optional (Some n) = Some (erase_name n)

-- tokens erased in the same way
abbrev pub erase_token : Placed → Placed
erase_token x = record x { pos = unknown }

abbrev pub erase_tokens : List Placed → List Placed
erase_tokens xs = map erase_token xs
