-- Integer literals: an optional `-`, an optional prefix, and the longest run of hexadecimal digits
-- and `_`. Underscores don't count. A literal has no value if it writes no number or one out of
-- range. The text is then rejected there, except at a lone `-`, which is a symbol.
use Rattle.std.specs.Prelude.{◌≡◌, ℕ, ℤ, pos, neg_ℤ, ◌-ℤ◌, ◌+◌, ◌*◌, ◌^◌, List, [], ◌∷◌, drop, length, map, filter, Bool, true, false, ◌||◌, not, ◌==◌, nat_lt, if◌then◌else◌, Option, Some, None, unwrap_or, is_some}
use Rattle.std.specs.Char.{digit_value, is_ascii_digit, is_ascii_hexdigit}
use Rattle.std.specs.List.{list_all}
use Rattle.isle_base.specs.Bytes.{hyphen_minus, digit_zero, letter_upper_b, letter_upper_o, letter_upper_x, underscore, letter_b, letter_o, letter_x}
use Rattle.isle_base.specs.Skips.{begins_with, Longest}

-- `-` or a decimal digit
unfoldable pub begins_literal : ℕ → Bool
begins_literal b = b == hyphen_minus || is_ascii_digit b

-- a hexadecimal digit or `_`
unfoldable pub in_literal : ℕ → Bool
in_literal b = is_ascii_hexdigit b || b == underscore

-- `-` is here
abbrev pub has_minus : List ℕ → Bool
has_minus text = begins_with (λ b. b == hyphen_minus) text

abbrev pub behind_minus : List ℕ → List ℕ
behind_minus text = if has_minus text then drop 1 text else text

-- the radix of the prefix `0` and this letter: `x` or `X` for 16, `o` or `O` for 8, `b` or `B` for
-- 2
unfoldable pub radix_of : ℕ → Option ℕ
radix_of b =
    if b == letter_x || b == letter_upper_x then Some 16
    else (if b == letter_o || b == letter_upper_o then Some 8
    else (if b == letter_b || b == letter_upper_b then Some 2
    else None))

-- the radix of the prefix here: `0` and a letter
abbrev pub prefix_radix : List ℕ → Option ℕ
prefix_radix [] = None
prefix_radix (a ∷ []) = None
prefix_radix (a ∷ b ∷ _) = if a == digit_zero then radix_of b else None

-- A prefix is always read as one. Without a prefix the radix is ten.
abbrev pub radix_at : List ℕ → ℕ
radix_at text = unwrap_or (prefix_radix text) 10

abbrev pub behind_prefix : List ℕ → List ℕ
behind_prefix text = if is_some (prefix_radix text) then drop 2 text else text

-- the values of the digits of a run, without its underscores
abbrev pub digits_of : List ℕ → List ℕ
digits_of run = map digit_value (filter (λ b. not (b == underscore)) run)

-- the sum of digit times power of the radix
abbrev pub number_of : ℕ → List ℕ → ℕ
number_of radix [] = 0
number_of radix (d ∷ ds) = d * radix ^ length ds + number_of radix ds

-- there is a digit, and each is below the radix
abbrev pub are_digits : ℕ → List ℕ → Bool
are_digits radix [] = false
are_digits radix (d ∷ ds) = list_all (λ e. nat_lt e radix) (d ∷ ds)

-- After `-` the number is below 2^127. Without it, a number from 2^127 up to 2^128 - 1 stands for
-- the negative number with the same 128 bits.
abbrev pub signed : Bool → ℕ → Option ℤ
signed true n = if nat_lt n (2 ^ 127) then Some (neg_ℤ (pos n)) else None
signed false n =
    if nat_lt n (2 ^ 127) then Some (pos n)
    else (if nat_lt n (2 ^ 128) then Some (pos n -ℤ pos (2 ^ 128)) else None)

-- the value of these digits after this sign
abbrev pub value_of : Bool → ℕ → List ℕ → Option ℤ
value_of minus radix ds = if are_digits radix ds then signed minus (number_of radix ds) else None

-- `text` begins with an integer literal of this value, or of none, and `rest` follows
pub record Literal (text : List ℕ) (value : Option ℤ) (rest : List ℕ) : Type 0 where
  pub begins : begins_with begins_literal text ≡ true
  pub run : List ℕ
  pub longest : Longest in_literal (behind_prefix (behind_minus text)) run rest
  pub meaning : value ≡ value_of (has_minus text) (radix_at (behind_minus text)) (digits_of run)
