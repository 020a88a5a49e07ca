-- What directly follows a number.
use Rattle.std.specs.Prelude.{ℕ, ◌-◌, List, ◌==◌, ◌||◌, Bool, false, Option, None, Some, slice_get, if◌then◌else◌}
use Rattle.std.specs.Char.{is_ascii_alphanumeric}
use Rattle.isle_base.specs.Bytes.{underscore}

-- a byte with which a number can end: a letter, a digit or `_`
abbrev pub ends_number : (byte : ℕ) → Bool
ends_number byte = is_ascii_alphanumeric byte || byte == underscore

abbrev pub ends_number_at : Option ℕ → Bool
ends_number_at None = false
ends_number_at (Some byte) = ends_number byte

-- whether such a byte stands right before an offset
abbrev pub is_behind_number : List ℕ → (offset : ℕ) → Bool
is_behind_number text offset = if offset == 0 then false else ends_number_at (slice_get text (offset - 1))
