-- Surrogates without a partner, in the escapes of JSON.
use Rattle.std.specs.Prelude.{ℕ, List, ◌∷◌, ◌++◌, take, drop, slice_index, codes, Bool, false, not, ◌&&◌, ◌||◌, ◌==◌, nat_le, nat_lt, if◌then◌else◌}
use Rattle.std.specs.Char.{digit_value, is_digit}

-- an escape from `\ud000` to `\udfff` is at the front, and its second digit is one of these
abbrev pub is_escape : (least below : ℕ) → List ℕ → Bool
is_escape least below (b ∷ u ∷ x ∷ y ∷ z ∷ w ∷ rest) =
    b == 92 && u == 117 && digit_value x == 13 && nat_le least (digit_value y) && nat_lt (digit_value y) below && is_digit z 16 && is_digit w 16
is_escape least below short = false

-- the first half of a surrogate pair is at the front, as `\ud83d`
unfoldable pub is_high : List ℕ → Bool
is_high bytes = is_escape 8 12 bytes

-- the second half is, as `\ude00`
unfoldable pub is_low : List ℕ → Bool
is_low bytes = is_escape 12 16 bytes

abbrev pub is_half : List ℕ → Bool
is_half bytes = is_high bytes || is_low bytes

-- a half without its partner is at the front; a first half stands before it, if it is paired
unfoldable pub is_lone : (paired : Bool) → List ℕ → Bool
is_lone paired bytes = (is_high bytes && not (is_low (drop 6 bytes))) || (is_low bytes && not paired)

abbrev pub replacement : List ℕ
replacement = codes "\\ufffd"

-- the bytes with `\ufffd` for each half without its partner
unfoldable pub mended_after : (paired : Bool) → List ℕ → List ℕ
mended_after paired (b ∷ u ∷ x ∷ y ∷ z ∷ w ∷ rest) =
    let bytes : List ℕ = b ∷ u ∷ x ∷ y ∷ z ∷ w ∷ rest in
    if is_half bytes then (if is_lone paired bytes then replacement else take 6 bytes) ++ mended_after (is_high bytes) rest
    else (if b == 92 then b ∷ u ∷ mended_after false (x ∷ y ∷ z ∷ w ∷ rest)
    else b ∷ mended_after false (u ∷ x ∷ y ∷ z ∷ w ∷ rest))
mended_after paired short = short

abbrev pub mended : List ℕ → List ℕ
mended body = mended_after false body

-- ---- one step

-- the length of the escape of a half at the front, of another escape's backslash and letter, or of a byte
unfoldable pub front_len : List ℕ → ℕ
front_len bytes = if is_half bytes then 6 else (if slice_index bytes 0 == 92 then 2 else 1)

-- what is at the front, or its replacement
abbrev pub mended_front : (paired : Bool) → List ℕ → List ℕ
mended_front paired bytes = if is_lone paired bytes then replacement else take (front_len bytes) bytes
