-- Texts whose tokens are the same, wherever they stand.
use Rattle.std.specs.Prelude.{◌≡◌, ℕ, List}
use Rattle.isle_base.specs.Lexing.{lexes}
use Rattle.isle_base.specs.Place.{nowhere, placed}
use Rattle.isle_base.specs.Token.{Lexeme, end}

-- both texts lex up to their ends, and to the same tokens, their offsets aside
abbrev pub HaveSameTokens : List ℕ → List ℕ → Type 0
HaveSameTokens text other =
    (xs ys : List Lexeme) × lexes text xs end × lexes other ys end × (placed nowhere xs ≡ placed nowhere ys)
