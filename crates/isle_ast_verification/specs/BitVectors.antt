-- The bit vectors of spec expressions: `#b` and binary digits, or `#x` and hexadecimal ones of
-- either case, with an optional `+` before the digits.
use Rattle.std.specs.Prelude.{◌≡◌, ℕ, ◌*◌, ◌^◌, ◌<◌, List, length, ◌++◌, ◌⊎◌, codes}
use Rattle.std.specs.Str.Parse.{IsNumeral, digits_value, without_leading_plus}

-- After this mark come digits in this radix, of `bits` bits each. The value is below 2^128. The
-- width counts each byte after the mark, a `+` too, and fits a `usize`.
pub record IsBitVectorIn (radix bits : ℕ) (mark text : List ℕ) (val width : ℕ) : Type 0 where
  pub digits : List ℕ
  pub marked : text ≡ mark ++ digits
  pub numeral : IsNumeral radix (without_leading_plus digits)
  pub value : digits_value radix (without_leading_plus digits) ≡ val
  pub small : val < 2 ^ 128
  pub bytes : length digits * bits ≡ width
  pub fits : width < 2 ^ 64

-- this text is a bit vector of this value and width
abbrev pub IsBitVector : List ℕ → ℕ → ℕ → Type 0
IsBitVector text val width =
    IsBitVectorIn 2 1 (codes "#b") text val width ⊎ IsBitVectorIn 16 4 (codes "#x") text val width
