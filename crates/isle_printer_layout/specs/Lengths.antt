-- The record of an S-expression's counted length.
use Rattle.std.specs.Prelude.{ℕ, ◌^◌, Option, Some, None, if◌then◌else◌, nat_lt}

-- A length below 2^64 is recorded as it is. Any other is too large: it fits no room, and adding to
-- it leaves it so.
abbrev pub record_of : ℕ → Option ℕ
record_of n = if nat_lt n (2 ^ 64) then Some n else None
