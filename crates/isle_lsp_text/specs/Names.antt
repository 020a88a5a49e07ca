-- Names that are not yet written whole.
use Rattle.std.specs.Prelude.{ℕ, ◌-◌, List, Bool, ◌&&◌, ◌||◌, ◌==◌, drop, length, nat_le, take}
use Rattle.std.specs.List.{suffix_len}

-- a byte that may stand in the part of a name: a letter or a digit of ASCII, `_`, `.`, `$`, or any past 127
abbrev pub is_name_byte : ℕ → Bool
is_name_byte b = (nat_le 97 b && nat_le b 122) || (nat_le 65 b && nat_le b 90) || (nat_le 48 b && nat_le b 57) || b == 95 || b == 46 || b == 36 || nat_le 128 b

-- the longest end of a text whose bytes may all stand in a name
abbrev pub name_end : List ℕ → List ℕ
name_end bs = drop (length bs - suffix_len is_name_byte bs) bs

-- the part of a name that is written right before an offset
abbrev pub name_before : List ℕ → (offset : ℕ) → List ℕ
name_before text offset = name_end (take offset text)
