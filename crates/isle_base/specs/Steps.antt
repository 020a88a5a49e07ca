-- The results of a lexer's functions, by the rest of its input. A lexer has failed if no token
-- remains but a fault does: an earlier call rejected the text.
use Rattle.std.specs.Prelude.{◌≡◌, ◌≤◌, ◌<◌, ◌^◌, ℕ, ◌+◌, Bool, true, false, List, [], ◌∷◌, Option, Some, None}
use Rattle.isle_base_source.specs.declared.error.Error.{Error}
use Rattle.isle_base_source.specs.declared.error.Error.TheVariants.{ParseError}
use Rattle.isle_base.specs.declared.fault.Fault.{Fault}
use Rattle.isle_base.specs.declared.fault.Fault.TheVariants as faults
use Rattle.isle_base_source.specs.declared.pos.Pos.{Pos}
use Rattle.isle_base.specs.declared.token.Token.{Token}
use Rattle.isle_base.specs.declared.token.TokenRef.{TokenRef}
use Rattle.isle_base.specs.Lexing.{lexes}
use Rattle.isle_base.specs.Place.{Placed, in_file, placed_at}
use Rattle.isle_base.specs.Token.{Lexeme, Ending, end, fault, Feed}
use Rattle.isle_base.specs.TokenView.{token_of, token_of_ref}

abbrev pub failed_by : List Lexeme → Ending → Bool
failed_by [] (fault _) = true
failed_by [] end = false
failed_by (_ ∷ _) _ = false

abbrev pub is_failed : Feed → Bool
is_failed feed = failed_by feed.coming feed.ending

-- neither a token nor a fault remains
abbrev pub ended_by : List Lexeme → Ending → Bool
ended_by [] end = true
ended_by [] (fault _) = false
ended_by (_ ∷ _) _ = false

abbrev pub is_at_end : Feed → Bool
is_at_end feed = ended_by feed.coming feed.ending

abbrev pub first_placed : ℕ → List Lexeme → Option Placed
first_placed file [] = None
first_placed file (x ∷ _) = Some (placed_at (in_file file) x)

-- the lexer's token ahead, with its position
abbrev pub lookahead : Feed → Option Placed
lookahead feed = first_placed feed.file feed.coming

abbrev pub offset_by : List Lexeme → Ending → ℕ → ℕ
offset_by (x ∷ _) _ _ = x.after
offset_by [] end size = size
offset_by [] (fault offset) _ = offset

-- the end of the token ahead; with no token ahead, the end of the text or the fault's first byte
abbrev pub current_pos : Feed → Pos
current_pos feed = in_file feed.file (offset_by feed.coming feed.ending feed.size)

-- a token with its position, as code returns it
abbrev pub placed_of : Pos × Token → Placed
placed_of x = record { pos = x.0; token = token_of x.1 }

abbrev pub placed_ref : Pos × TokenRef → Placed
placed_ref x = record { pos = x.0; token = token_of_ref x.1 }

-- a parse error whose span is the one byte at this position
abbrev pub RefusesAt : Pos → Error → Type 0
RefusesAt pos (ParseError msg span) =
    span ≡ record { from = pos; to = record { file = pos.file; offset = pos.offset + 1 } }
RefusesAt pos _ = ⊥

-- parse errors that stand at one place
abbrev pub RefuseAlike : Error → Error → Type 0
RefuseAlike e f = (pos : Pos) × RefusesAt pos e × RefusesAt pos f

-- The first token is taken, and the others remain. It is not the last one before a fault.
pub record Takes (old : Feed) (x : Placed) (new : Feed) : Type 0 where
  pub first : Lexeme
  pub shown : x ≡ placed_at (in_file old.file) first
  pub coming : old.coming ≡ first ∷ new.coming
  pub goes_on : is_failed new ≡ false
  pub same : new ≡ record old { coming = new.coming }

-- One token remains before a fault, which begins at this offset.
pub record FacesFault (feed : Feed) (offset : ℕ) : Type 0 where
  pub last : Lexeme
  pub coming : feed.coming ≡ last ∷ []
  pub ending : feed.ending ≡ fault offset
  pub within : offset < feed.size

-- One token remains before a fault: the token is lost, and the lexer has failed.
pub record Refuses (old : Feed) (e : Error) (new : Feed) : Type 0 where
  pub last : Lexeme
  pub coming : old.coming ≡ last ∷ []
  pub offset : ℕ
  pub ending : old.ending ≡ fault offset
  pub error : RefusesAt (in_file old.file offset) e
  pub failed : new ≡ record old { coming = [] }

-- a property of the error, if the fault has one
abbrev pub IfError : (Error → Type 0) → Fault → Type 0
IfError P (faults.Error e) = P e
IfError P faults.Failed = Unit {0}
IfError P faults.Memory = Unit {0}

-- The first thing in this file after blanks and comments is a fault, and the error is there.
abbrev pub RefusesStart : ℕ → List ℕ → Error → Type 0
RefusesStart file text e = (offset : ℕ) × lexes text [] (fault offset) × RefusesAt (in_file file offset) e

-- every offset of a token is at most the text's length
abbrev pub AreWithin : ℕ → List Lexeme → Type 0
AreWithin size [] = Unit {0}
AreWithin size (x ∷ xs) = (x.offset ≤ size) × (x.after ≤ size) × AreWithin size xs

abbrev pub EndsWithin : ℕ → Ending → Type 0
EndsWithin size end = Unit {0}
EndsWithin size (fault offset) = offset ≤ size

-- No offset is past the end of the text, and the length is below the greatest number.
pub record IsWithin (feed : Feed) : Type 0 where
  pub tokens : AreWithin feed.size feed.coming
  pub ending : EndsWithin feed.size feed.ending
  pub short : feed.size + 1 < 2 ^ 64

-- each token begins at or after the end of the one before it, and is not empty
abbrev pub Rises : ℕ → List Lexeme → Type 0
Rises from [] = Unit {0}
Rises from (x ∷ xs) = (from ≤ x.offset) × (x.offset < x.after) × Rises x.after xs
