-- The results of functions that read, by the tokens that are left.
use Rattle.std.specs.Prelude.{◌≡◌, ℕ, ◌+◌, ◌≤◌, ◌<◌, ◌^◌, List, [], Bool, true, false, Option, Some, None, Result, Ok, Err, if◌then◌else◌}
use Rattle.isle_base_source.specs.declared.pos.Pos.{Pos}
use Rattle.isle_base.specs.Place.{Placed, in_file, nowhere, placed}
use Rattle.isle_base.specs.Steps.{FacesFault, RefusesAt, is_failed}
use Rattle.isle_base.specs.Token.{Ending, fault}
use Rattle.isle_base.specs.Refusal.{RefusesIn}
use Rattle.isle_parser_cursor.specs.declared.cursor.Cursor.{Cursor}
use Rattle.isle_parser_cursor.specs.declared.cursor.Stop.{Stop}
use Rattle.isle_parser_cursor.specs.Reading.{Reader}
use Rattle.isle_base_source.specs.declared.error.Error.{Error}
use Rattle.isle_parser_cursor.specs.declared.cursor.Stop.TheVariants as stops

-- the position of an offset: unknown, if positions are not kept
abbrev pub placing : Bool → ℕ → ℕ → Pos
placing true file = nowhere
placing false file = in_file file

-- the tokens to come, each at its position
abbrev pub tokens : Cursor → List Placed
tokens p = placed (placing p.disable_pos p.scanner.file) p.scanner.coming

-- the tokens left to take: none if the last one before a fault has been taken
unfoldable pub left : Cursor → List Placed
left p = if p.is_spent then [] else tokens p

-- The lexer has not failed, and if the token ahead has been taken, a fault follows it.
pub record GoesOn (p : Cursor) : Type 0 where
  pub live : is_failed p.scanner ≡ false
  pub spent : p.is_spent ≡ true → (offset : ℕ) × FacesFault p.scanner offset

-- the part of a cursor that never changes
pub record CursorSource : Type 0 where
  pub file : ℕ
  pub ending : Ending
  pub size : ℕ
  pub disable_pos : Bool

abbrev pub source : Cursor → CursorSource
source p = record { file = p.scanner.file; ending = p.scanner.ending; size = p.scanner.size; disable_pos = p.disable_pos }

-- a byte of the text, or its end; the length is below the greatest number
pub record IsPlace (s : CursorSource) (pos : Pos) : Type 0 where
  pub file : pos.file ≡ s.file
  pub offset : pos.offset ≤ s.size
  pub short : s.size + 1 < 2 ^ 64

-- the parser refuses the byte at this position
abbrev pub IsRefusalAt : Pos → Stop → Type 0
IsRefusalAt pos (stops.Parser e) = RefusesAt pos e.value
IsRefusalAt pos stops.Memory = Unit {0}

-- a parse error at the fault that ends the text
abbrev pub StandsAtFault : CursorSource → Error → Type 0
StandsAtFault s e = (offset : ℕ) × (s.ending ≡ fault offset) × (offset ≤ s.size) × RefusesAt (in_file s.file offset) e

-- a refusal of the parser at some byte of the file, or at the text's end
abbrev pub IsParserRefusal : CursorSource → Stop → Type 0
IsParserRefusal s (stops.Parser e) = RefusesIn s.file s.size e.value
IsParserRefusal s stops.Memory = Unit {0}

-- If the parser rejects, reading has no result.
abbrev pub Stops : {Y : Type 0} → Option (Y × List Placed) → CursorSource → Stop → Type 0
Stops read s (stops.Parser e) = (read ≡ None) × RefusesIn s.file s.size e.value
Stops read s stops.Memory = Unit {0}

-- The result, as seen by `view`, is that of reading the remaining tokens.
abbrev pub MatchesRead : {X Y : Type 0} → (X → Y) → Option (Y × List Placed) → Result X Stop → Cursor → Type 0
MatchesRead view read (Ok x) new = read ≡ Some (view x, left new)
MatchesRead view read (Err e) new = Stops read (source new) e

-- A function takes the same tokens as the reader, and its result is the reader's, as seen by
-- `view`. The text and its file stay the same.
pub record ReadsOff {X Y : Type 0} (view : X → Y) (reader : Reader Y) (old : Cursor) (result : Result X Stop) (new : Cursor) : Type 0 where
  pub same : source new ≡ source old
  pub gives : MatchesRead view (reader (left old)) result new

-- The test is passed, or the parser rejects a place.
abbrev pub PassesOrRefuses : {X : Type 0} → Bool → CursorSource → Result X Stop → Type 0
PassesOrRefuses passed s (Ok _) = passed ≡ true
PassesOrRefuses passed s (Err (stops.Parser e)) = (passed ≡ false) × RefusesIn s.file s.size e.value
PassesOrRefuses passed s (Err stops.Memory) = Unit {0}
