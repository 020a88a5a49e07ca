-- The definitions that a text spells.
use Rattle.std.specs.Prelude.{◌≡◌, ℕ, List}
use Rattle.isle_base_source.specs.declared.pos.Pos.{Pos}
use Rattle.isle_base.specs.UpstreamLexing.{upstream_lexes}
use Rattle.isle_base.specs.Lexing.{lexes}
use Rattle.isle_base.specs.Token.{Feed, Lexeme, end}
use Rattle.isle_ast.specs.Grammar.{SpellsDefinitions}
use Rattle.isle_base.specs.Place.{placed}
use Rattle.isle_ast.specs.Tree.{Definition}

-- The rest of a lexer's input ends with the end of the text, and its tokens spell these
-- definitions. `place` gives the position of a token for its offset.
abbrev pub Spells : (ℕ → Pos) → Feed → List Definition → Type 0
Spells place feed ds = (feed.ending ≡ end) × SpellsDefinitions ds (placed place feed.coming)

-- The same of a whole text: it lexes to tokens, up to its end, that spell these definitions.
abbrev pub IsSpelt : (ℕ → Pos) → List ℕ → List Definition → Type 0
IsSpelt place text ds =
    (tokens : List Lexeme) × lexes text tokens end × SpellsDefinitions ds (placed place tokens)

-- The same with the tokens of upstream's rules, where a lone `-` is no symbol. The grammar is the
-- same.
abbrev pub WasSpelt : (ℕ → Pos) → List ℕ → List Definition → Type 0
WasSpelt place text ds =
    (tokens : List Lexeme) × upstream_lexes text tokens end × SpellsDefinitions ds (placed place tokens)
