-- The numbers of the grammar: integer tokens within the range of a type.
use Rattle.std.specs.Prelude.{ℕ, ℤ, pos, negsuc, ◌^◌, ◌<◌, List}
use Rattle.isle_base.specs.Place.{Placed}
use Rattle.isle_base.specs.Token.{integer}
use Rattle.isle_ast_names.specs.Words.{SpellsToken}

-- a number that fits a `usize`
abbrev pub SpellsNumber : ℕ → List Placed → List Placed → Type 0
SpellsNumber n all rest = (n < 2 ^ 64) × SpellsToken (integer (pos n)) all rest

-- from -2^bits up to 2^bits - 1: a signed number with this many bits beside its sign. `negsuc n` is
-- -(n + 1).
abbrev pub IsSigned : ℕ → ℤ → Type 0
IsSigned bits (pos n) = n < 2 ^ bits
IsSigned bits (negsuc n) = n < 2 ^ bits

-- a number that fits an `i128`
abbrev pub SpellsInteger : ℤ → List Placed → List Placed → Type 0
SpellsInteger value all rest = IsSigned 127 value × SpellsToken (integer value) all rest

-- a number that fits an `i64`
abbrev pub SpellsPriority : ℤ → List Placed → List Placed → Type 0
SpellsPriority value all rest = IsSigned 63 value × SpellsToken (integer value) all rest
