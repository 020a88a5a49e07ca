-- The texts of a program, and their definitions.
use Rattle.std.specs.Prelude.{ℕ, ◌+◌, List, [], ◌∷◌}
use Rattle.std.specs.List.{flat_map}
use Rattle.isle_base.specs.Lexing.{lexes}
use Rattle.isle_base.specs.Place.{Placed, in_file, placed}
use Rattle.isle_base.specs.Token.{Lexeme, end}
use Rattle.isle_ast_names.specs.Tree.{Name}
use Rattle.isle_ast.specs.Grammar.{SpellsDefinitions}
use Rattle.isle_ast.specs.Spelt.{IsSpelt}
use Rattle.isle_ast.specs.Tree.{Definition}
use Rattle.isle_resolve.specs.Mapped.{map_definitions}

pub record SpeltText : Type 0 where
  pub text : List ℕ
  pub definitions : List Definition

-- each text spells its definitions. The files are numbered from this number on
abbrev pub AreSpelt : ℕ → List SpeltText → Type 0
AreSpelt file [] = Unit {0}
AreSpelt file (t ∷ ts) = IsSpelt (in_file file) t.text t.definitions × AreSpelt (file + 1) ts

-- the definitions of all of them
abbrev pub definitions_of : List SpeltText → List Definition
definitions_of ts = flat_map (λ t. t.definitions) ts

-- each text lexes to tokens that spell its definitions with f applied to their names, once the tokens are changed
abbrev pub AreSpeltWith : (f : Name → Name) → (change : List Placed → List Placed) → ℕ → List SpeltText → Type 0
AreSpeltWith f change file [] = Unit {0}
AreSpeltWith f change file (t ∷ ts) =
    ((tokens : List Lexeme) × lexes t.text tokens end × SpellsDefinitions (map_definitions f t.definitions) (change (placed (in_file file) tokens)))
    × AreSpeltWith f change (file + 1) ts
