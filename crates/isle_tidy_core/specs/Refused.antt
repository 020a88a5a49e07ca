-- Which texts have no document, and why one is refused.
use Rattle.std.specs.Prelude.{◌≡◌, ℕ, ◌≤◌, zero, suc, List, [], ◌∷◌, ◌++◌, map, Bool, true, false}
use Rattle.isle_base.specs.Lexing.{lexes}
use Rattle.isle_base.specs.Place.{in_file}
use Rattle.isle_base.specs.Steps.{RefusesAt}
use Rattle.isle_base.specs.Token.{Tok, lparen, rparen, symbol, integer, at_sign, Lexeme, Ending, end, fault}
use Rattle.isle_base_source.specs.declared.error.Error.{Error}
use Rattle.isle_tidy_core.specs.Grammar.{IsDocument}
use Rattle.isle_tidy_core.specs.Matched.{token_of, tokens_match}
use Rattle.isle_tidy_layout.specs.Entries.{Entry}

abbrev pub HasDocument : List ℕ → Type 0
HasDocument text = (document : List Entry) × IsDocument text document

abbrev pub HasNoDocument : List ℕ → Type 0
HasNoDocument text = (document : List Entry) → IsDocument text document → ⊥

-- Each `)` among these tokens has its `(` among them, or is that of one of so many lists.
abbrev pub none_closes : ℕ → List Tok → Bool
none_closes depth [] = true
none_closes depth (lparen ∷ ts) = none_closes (suc depth) ts
none_closes zero (rparen ∷ ts) = false
none_closes (suc depth) (rparen ∷ ts) = none_closes depth ts
none_closes depth (symbol _ ∷ ts) = none_closes depth ts
none_closes depth (integer _ ∷ ts) = none_closes depth ts
none_closes depth (at_sign ∷ ts) = none_closes depth ts

-- a parse error whose span is the byte at this offset
abbrev pub StandsAt : ℕ → Error → Type 0
StandsAt offset e = RefusesAt (in_file 0 offset) e

-- The lexer refuses the text; or a `)` has no `(`, since the parentheses before it match; or a `(` has no
-- `)`, since none of the `)` after it is its.
pub data IsRefusedFor (text : List ℕ) (e : Error) : Type 0 where
  faulty : (tokens : List Lexeme) (offset : ℕ) → lexes text tokens (fault offset) → StandsAt offset e → IsRefusedFor text e
  unmatched : (before after : List Lexeme) (x : Lexeme) (ending : Ending) → lexes text (before ++ (x ∷ after)) ending → x.token ≡ rparen
      → tokens_match before ≡ true → StandsAt x.offset e → IsRefusedFor text e
  unclosed : (before after : List Lexeme) (x : Lexeme) → lexes text (before ++ (x ∷ after)) end → x.token ≡ lparen
      → none_closes 0 (map token_of after) ≡ true → StandsAt x.offset e → IsRefusedFor text e

-- a parse error at a byte of a text of this size, or at its end
abbrev pub IsWithin : ℕ → Error → Type 0
IsWithin size e = (offset : ℕ) × (offset ≤ size) × StandsAt offset e
