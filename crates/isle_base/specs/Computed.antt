-- How the view of a lexer computes the tokens of a text. It is only a means: `lexes` defines the
-- tokens of a text, and no contract names anything in this file.
use Rattle.std.specs.Prelude.{ℕ, zero, suc, ◌-◌, List, [], ◌∷◌, Bool, ◌&&◌, not, ◌==◌, if◌then◌else◌, Option, Some, None, length, drop, ℤ}
use Rattle.std.specs.List.{prefix_len, take_while}
use Rattle.isle_base.specs.Bytes.{form_feed, left_parenthesis, right_parenthesis, semicolon, commercial_at}
use Rattle.isle_base.specs.Literals.{begins_literal, in_literal, has_minus, behind_minus, radix_at, behind_prefix, digits_of, value_of}
use Rattle.isle_base.specs.Spellings.{in_symbol, is_lone_minus}
use Rattle.isle_base.specs.Skips.{opens, is_blank, in_line}
use Rattle.isle_base.specs.Token.{Tok, lparen, rparen, symbol, integer, at_sign, Lexeme, Ending, end, fault}

-- the rest after the longest run of a kind
abbrev pub behind : (ℕ → Bool) → List ℕ → List ℕ
behind kind text = drop (prefix_len kind text) text

-- the rest after the end of the outermost of this many block comments, if they end
unfoldable pub close : ℕ → List ℕ → Option (List ℕ)
close zero text = Some text
close (suc n) [] = None
close (suc n) (a ∷ []) = None
close (suc n) (a ∷ b ∷ rest) =
    if a == left_parenthesis && b == semicolon then close (suc (suc n)) rest
    else (if a == semicolon && b == right_parenthesis then close n rest
    else close (suc n) (b ∷ rest))

-- the start of a text after a skip: nothing, a fault, or a token
pub data First : Type 0 where
  ended : First
  refused : List ℕ → First
  found : List ℕ → Tok → List ℕ → First

unfoldable pub literal_first : List ℕ → List ℕ → Option ℤ → First
literal_first text after None = refused text
literal_first text after (Some value) = found text (integer value) after

unfoldable pub spelling_first : List ℕ → First
spelling_first [] = ended
spelling_first (b ∷ rest) =
    if b == left_parenthesis then found (b ∷ rest) lparen rest
    else (if b == right_parenthesis then found (b ∷ rest) rparen rest
    else (if b == commercial_at then found (b ∷ rest) at_sign rest
    else (if b == form_feed then refused (b ∷ rest)
    else (if begins_literal b && not (is_lone_minus (b ∷ rest)) then literal_first (b ∷ rest) (behind in_literal (behind_prefix (behind_minus (b ∷ rest)))) (value_of (has_minus (b ∷ rest)) (radix_at (behind_minus (b ∷ rest))) (digits_of (take_while in_literal (behind_prefix (behind_minus (b ∷ rest))))))
    else found (b ∷ rest) (symbol (take_while in_symbol (b ∷ rest))) (behind in_symbol (b ∷ rest))))))

unfoldable pub comment_first : (List ℕ → First) → List ℕ → Option (List ℕ) → First
comment_first more text None = refused text
comment_first more text (Some after) = more after

unfoldable pub first : ℕ → List ℕ → First
first zero text = ended
first (suc n) [] = ended
first (suc n) (b ∷ rest) =
    if is_blank b then first n rest
    else (if b == semicolon then first n (behind in_line rest)
    else (if opens (b ∷ rest) then comment_first (first n) (b ∷ rest) (close 1 (drop 1 rest))
    else spelling_first (b ∷ rest)))

-- the tokens and the ending of a text
pub record Computed : Type 0 where
  pub tokens : List Lexeme
  pub ending : Ending

unfoldable pub computed_by : (List ℕ → Computed) → ℕ → First → Computed
computed_by more size ended = record { tokens = []; ending = end }
computed_by more size (refused from) = record { tokens = []; ending = fault (size - length from) }
computed_by more size (found from token after) = record {
  tokens = record { offset = size - length from; token = token; after = size - length after } ∷ (more after).tokens;
  ending = (more after).ending;
}

-- the tokens and the ending of the last bytes of a text of this size, in at most this many steps
unfoldable pub computed : ℕ → ℕ → List ℕ → Computed
computed zero size text = record { tokens = []; ending = end }
computed (suc n) size text = computed_by (computed n size) size (first (length text) text)
