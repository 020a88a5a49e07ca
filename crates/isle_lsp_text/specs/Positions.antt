-- Positions in a text, by lines and the units of an encoding, and the byte offsets that they stand for.
use Rattle.std.specs.Char.Escape.{encode_utf16}
use Rattle.std.specs.Prelude.{◌≡◌, ℕ, zero, suc, ◌+◌, ◌-◌, ◌≤◌, Bool, false, not, ◌&&◌, ◌||◌, ◌==◌, nat_lt, if◌then◌else◌, List, [], ◌∷◌, length, slice_index}
use Rattle.isle_lsp_text.specs.declared.positions.Place.{Place}
use Rattle.isle_lsp_text.specs.declared.positions.Position.{Position}
use Rattle.isle_lsp_text.specs.declared.positions.PositionEncoding.{PositionEncoding}
use Rattle.isle_lsp_text.specs.declared.positions.PositionEncoding.TheVariants.{Utf8, Utf16}

-- a byte of a character that isn't its first one
abbrev pub is_inner : ℕ → Bool
is_inner b = nat_lt 127 b && nat_lt b 192

-- how many units of UTF-16 the character has that begins with this byte, and 0 at another byte
abbrev pub utf16_count : ℕ → ℕ
utf16_count b = if is_inner b then 0 else (if nat_lt b 240 then 1 else 2)

-- how many units a byte adds to those before it: in UTF-8 each byte is one
abbrev pub unit_count : PositionEncoding → ℕ → ℕ
unit_count Utf8 b = 1
unit_count Utf16 b = utf16_count b

-- a line ends after this byte, with these after it: LF, CR LF, or a CR alone
abbrev pub ends_line : ℕ → List ℕ → Bool
ends_line b rest = b == 10 || (b == 13 && not (slice_index rest 0 == 10))

-- a line's characters end before this byte
abbrev pub is_line_end : ℕ → Bool
is_line_end b = b == 10 || b == 13

abbrev pub position : ℕ → ℕ → Position
position line unit = record { line = line; unit = unit }

-- the position so many bytes on, from this line and unit
unfoldable pub position_from : PositionEncoding → ℕ → ℕ → ℕ → List ℕ → Position
position_from enc line unit zero bytes = position line unit
position_from enc line unit (suc n) [] = position line unit
position_from enc line unit (suc n) (b ∷ bytes) =
    if ends_line b bytes then position_from enc (line + 1) 0 n bytes else position_from enc line (unit + unit_count enc b) n bytes

-- the position of an offset
abbrev pub position_at : PositionEncoding → ℕ → List ℕ → Position
position_at enc offset text = position_from enc 0 0 offset text

-- The offset is one of the text, and the position is its position.
pub record IsPlace (enc : PositionEncoding) (text : List ℕ) (place : Place) : Type 0 where
  pub within : place.offset ≤ length text
  pub position : place.position ≡ position_at enc place.offset text

-- the way to a unit of a line ends before this byte: the line does, or the units that are left would cut the character that begins here
abbrev pub stops : PositionEncoding → (unit b : ℕ) → Bool
stops enc unit b = is_line_end b || (not (is_inner b) && nat_lt unit (unit_count enc b))

-- How many bytes on the position is that lies so many lines and units on: at the end of a line that is shorter, and at the end of a text that has fewer
-- lines. A unit of UTF-16 inside a character is before it, and one of UTF-8 behind it.
unfoldable pub offset_from : PositionEncoding → ℕ → ℕ → List ℕ → ℕ
offset_from enc line unit [] = 0
offset_from enc zero unit (b ∷ bytes) =
    if stops enc unit b then 0 else suc (offset_from enc zero (unit - unit_count enc b) bytes)
offset_from enc (suc line) unit (b ∷ bytes) =
    if ends_line b bytes then suc (offset_from enc line unit bytes) else suc (offset_from enc (suc line) unit bytes)

-- the offset of a position
abbrev pub offset_at : PositionEncoding → Position → List ℕ → ℕ
offset_at enc p text = offset_from enc p.line p.unit text

-- no character and no CR LF is cut at this offset
abbrev pub IsWhole : List ℕ → ℕ → Type 0
IsWhole bytes n = (n ≤ length bytes) × (is_inner (slice_index bytes n) ≡ false) × ((m : ℕ) → n ≡ suc m → slice_index bytes m ≡ 13 → slice_index bytes n ≡ 10 → ⊥)

-- ---- what a unit is

-- how many units the characters have that begin in these bytes
abbrev pub units : PositionEncoding → List ℕ → ℕ
units enc [] = 0
units enc (b ∷ bytes) = unit_count enc b + units enc bytes

-- how many units of UTF-16 the characters have
abbrev pub units_of : List ℕ → ℕ
units_of [] = 0
units_of (c ∷ cs) = length (encode_utf16 c) + units_of cs
