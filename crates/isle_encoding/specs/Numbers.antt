-- The encoding of numbers, flags, integers, options and lists.
use Rattle.std.specs.Prelude.{ℕ, zero, suc, ◌+◌, ◌/◌, ◌%◌, ℤ, pos, negsuc, Bool, true, false, List, [], ◌∷◌, ◌++◌, length, flat_map, nat_lt, Option, Some, None, if◌then◌else◌}

-- at most this many digits of a number in base 64, the lowest first: 64 is added to each digit but
-- the last
abbrev pub digits : ℕ → ℕ → List ℕ
digits zero n = n ∷ []
digits (suc more) n = if nat_lt n 64 then n ∷ [] else (64 + n % 64) ∷ digits more (n / 64)

-- all digits of a number; there are at most as many as its value
unfoldable pub number : ℕ → List ℕ
number n = digits n n

abbrev pub flag : Bool → List ℕ
flag false = 0 ∷ []
flag true = 1 ∷ []

-- whether it is negative, and its distance from 0 or from -1
abbrev pub integer : ℤ → List ℕ
integer (pos n) = 0 ∷ number n
integer (negsuc n) = 1 ∷ number n

-- whether there is a value, and the value
abbrev pub option : {A : Type 0} → (A → List ℕ) → Option A → List ℕ
option encode None = 0 ∷ []
option encode (Some x) = 1 ∷ encode x

-- the number of items, and the items
abbrev pub list : {A : Type 0} → (A → List ℕ) → List A → List ℕ
list encode xs = number (length xs) ++ flat_map encode xs
