-- The rest of a scanner's input, by its fields.
use Rattle.std.specs.Prelude.{◌≡◌, ◌≤◌, ◌<◌, ◌+◌, ◌^◌, ℕ, List, [], ◌∷◌, Bool, true, false, Option, Some, None, length, drop, IsUtf8}
use Rattle.isle_base_source.specs.declared.pos.Pos.{Pos}
use Rattle.isle_base.specs.declared.token.TokenRef.{TokenRef}
use Rattle.isle_base.specs.declared.scanner.Scanner.TheInside.{Inside}
use Rattle.isle_base.specs.Computed.{Computed, computed}
use Rattle.isle_base.specs.Token.{Lexeme, Ending, end, fault, Feed}
use Rattle.isle_base.specs.TokenView.{token_of_ref}

-- the tokens of the text from an offset on, and how they end
abbrev pub computed_from : List ℕ → ℕ → Computed
computed_from text from = computed (length text) (length text) (drop from text)

abbrev pub coming_of : List ℕ → Pos → Option (Pos × TokenRef) → List Lexeme
coming_of text pos None = []
coming_of text pos (Some x) = record { offset = x.0.offset; token = token_of_ref x.1; after = pos.offset } ∷ (computed_from text pos.offset).tokens

abbrev pub ending_of : List ℕ → Pos → Option (Pos × TokenRef) → Bool → Ending
ending_of text pos None true = fault pos.offset
ending_of text pos None false = end
ending_of text pos (Some _) _ = (computed_from text pos.offset).ending

abbrev pub feed_of : Inside → Feed
feed_of a = record {
  file = a.pos.file;
  coming = coming_of a.src.now a.pos a.lookahead;
  ending = ending_of a.src.now a.pos a.lookahead a.failed;
  size = length a.src.now;
}

-- The token ahead is in the same file, and the text continues after it. With no token ahead, the
-- position is the end of the text, or the fault's first byte.
abbrev pub IsAhead : List ℕ → Pos → Option (Pos × TokenRef) → Bool → Type 0
IsAhead text pos (Some x) failed =
    (x.0.file ≡ pos.file) × (x.0.offset < pos.offset) × (failed ≡ false) × IsUtf8 (drop pos.offset text)
IsAhead text pos None false = pos.offset ≡ length text
IsAhead text pos None true = Unit {0}

pub record IsScanner (a : Inside) : Type 0 where
  pub within : a.pos.offset ≤ length a.src.now
  pub short : length a.src.now + 1 < 2 ^ 64
  pub ahead : IsAhead a.src.now a.pos a.lookahead a.failed
