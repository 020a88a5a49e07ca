-- A printed text reads back as the definitions, and two texts have the same tokens.
use Rattle.std.specs.Prelude.{◌≡◌, ◌↔◌, ℕ, List}
use Rattle.isle_ast.specs.Tree.{Definition}
use Rattle.isle_ast.specs.Erased.{erase}
use Rattle.isle_ast.specs.Grammar.{SpellsDefinitions}
use Rattle.isle_ast.specs.Spelt.{IsSpelt}
use Rattle.isle_ast.specs.Writable.{AreWritable}
use Rattle.isle_base.specs.Lexing.{lexes}
use Rattle.isle_base.specs.Place.{Placed, nowhere, placed}
use Rattle.isle_base.specs.Token.{Lexeme, end}

-- If some tokens spell the definitions, the text spells them too, erased.
abbrev pub ReadsBack : List Definition → List ℕ → Type 0
ReadsBack ds text = (all : List Placed) → SpellsDefinitions ds all → IsSpelt nowhere text (erase ds)

-- The text spells the definitions, erased, exactly if they are writable.
abbrev pub ReadsBackIfWritable : List Definition → List ℕ → Type 0
ReadsBackIfWritable ds text = IsSpelt nowhere text (erase ds) ↔ AreWritable ds

-- Both texts lex, up to their ends, to the same tokens, offsets aside.
abbrev pub HaveSameTokens : List ℕ → List ℕ → Type 0
HaveSameTokens text other =
    (l m : List Lexeme) × lexes text l end × lexes other m end × (placed nowhere l ≡ placed nowhere m)
