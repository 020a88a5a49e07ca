-- What is returned of a text that is rejected.
use Rattle.std.specs.Prelude.{◌≡◌, ◌≤◌, ◌+◌, ℕ, List, length, string_bytes}
use Rattle.isle_base_source.specs.declared.error.Error.{Error}
use Rattle.isle_base_source.specs.declared.error.Error.TheVariants.{ParseError}
use Rattle.isle_base_source.specs.Lines.{column, line, line_begin, line_end}
use Rattle.isle_base.specs.Place.{in_file}
use Rattle.isle_base.specs.Steps.{RefusesAt}
use Rattle.isle_c.specs.declared.Place.{Place}
use Rattle.isle_base.specs.Diagnostics.{refusal_text}
use Rattle.isle_tidy_core.specs.Refused.{HasNoDocument, IsRefusedFor}
use Rattle.isle_base.specs.Refusal.{RefusesIn}
use Rattle.isle_syntax.specs.Format.{IsRefused}

-- the place of an offset in a text: line and column from 1, and the line's two ends
abbrev pub place_at : List ℕ → ℕ → Place
place_at text offset = record {
  offset = offset;
  line = line text offset + 1;
  column = column text offset + 1;
  line_begin = line_begin text (line text offset);
  line_end = line_end text (line text offset);
}

-- an error with this message, without its kind
abbrev pub HasReason : List ℕ → Error → Type 0
HasReason reason (ParseError msg span) = reason ≡ string_bytes msg
HasReason reason _ = ⊥

-- This message and this place are those of a parse error of the text.
pub record Tells (text : List ℕ) (e : Error) (place : Place) (reason : List ℕ) : Type 0 where
  pub says : HasReason reason e
  pub stands : RefusesAt (in_file 0 place.offset) e
  pub within : place.offset ≤ length text
  pub shown : place ≡ place_at text place.offset

-- The text is refused by a parse error with this message, at this place.
pub record IsRefusedAt (text : List ℕ) (place : Place) (reason : List ℕ) : Type 0 where
  pub refused : IsRefused text
  pub error : Error
  pub told : Tells text error place reason

-- The text can't be tidied: it has no document, which a parse error says with this message, at this place.
pub record IsUntidiableAt (text : List ℕ) (place : Place) (reason : List ℕ) : Type 0 where
  pub no_document : HasNoDocument text
  pub error : Error
  pub why : IsRefusedFor text error
  pub told : Tells text error place reason

-- this shows a refusal of the text, at one of its bytes or at its end
abbrev pub IsDiagnosticOf : List ℕ → List ℕ → List ℕ → Type 0
IsDiagnosticOf name text shown =
    IsRefused text × ((e : Error) × RefusesIn 0 (length text) e × (shown ≡ refusal_text name text e))
