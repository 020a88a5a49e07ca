-- The parentheses of the tokens that are read so far.
use Rattle.std.specs.Prelude.{◌≡◌, ℕ, suc, List, [], ◌∷◌, ◌++◌, map, true}
use Rattle.isle_base.specs.Lexing.{lexes}
use Rattle.isle_base.specs.Steps.{is_at_end}
use Rattle.isle_base.specs.Token.{Tok, lparen, rparen, Lexeme, Ending, end, Feed}
use Rattle.isle_tidy_core.specs.Matched.{match_tokens, token_of, tokens_match}
use Rattle.isle_tidy_core.specs.Refused.{none_closes}
use Rattle.isle_tidy_core.specs.declared.parentheses.Found.{Found}
use Rattle.isle_tidy_core.specs.declared.parentheses.Found.TheVariants as founds
use Rattle.isle_tidy_core.specs.declared.parentheses.Parentheses.{Parentheses}

-- A `(` among these tokens, at this offset, is that of the outermost of the open lists, of which so many
-- are in it.
abbrev pub IsOutermost : List Lexeme → (inner offset : ℕ) → Type 0
IsOutermost taken inner offset =
    (before : List Lexeme) × (x : Lexeme) × (after : List Lexeme) × (taken ≡ before ++ (x ∷ after)) × (x.token ≡ lparen) × (x.offset ≡ offset)
    × ((ts : List Tok) → none_closes 0 (map token_of after ++ ts) ≡ none_closes inner ts)

pub record IsAfter (taken : List Lexeme) (p : Parentheses) : Type 0 where
  pub counted : (ts : List Tok) → match_tokens 0 (map token_of taken ++ ts) ≡ match_tokens p.depth ts
  pub opened : (inner : ℕ) → p.depth ≡ suc inner → IsOutermost taken inner p.outermost

-- these tokens are taken off the text, which is file 0, and the others are to come
pub record HasRead (text : List ℕ) (taken : List Lexeme) (feed : Feed) (p : Parentheses) : Type 0 where
  pub lexed : lexes text (taken ++ feed.coming) feed.ending
  pub file : feed.file ≡ 0
  pub parentheses : IsAfter taken p

-- all tokens of the text are read
pub record HasReadAll (text : List ℕ) (taken : List Lexeme) (p : Parentheses) : Type 0 where
  pub lexed : lexes text taken end
  pub parentheses : IsAfter taken p

-- an unmatched `)` of the text, at this offset
pub record IsUnmatched (text : List ℕ) (offset : ℕ) : Type 0 where
  pub before : List Lexeme
  pub x : Lexeme
  pub after : List Lexeme
  pub ending : Ending
  pub lexed : lexes text (before ++ (x ∷ after)) ending
  pub is : x.token ≡ rparen
  pub matched : tokens_match before ≡ true
  pub place : x.offset ≡ offset

-- what is found after these tokens
abbrev pub Finds : (text : List ℕ) (taken : List Lexeme) → Feed → Parentheses → Found → Type 0
Finds text taken feed p founds.Token = (x : Lexeme) × HasRead text (taken ++ (x ∷ [])) feed p
Finds text taken feed p founds.End = (is_at_end feed ≡ true) × HasRead text taken feed p
Finds text taken feed p (founds.Unmatched offset) = IsUnmatched text offset
