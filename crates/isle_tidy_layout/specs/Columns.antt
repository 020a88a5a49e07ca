-- Bytes that are one column each, whatever stands before them.
use Rattle.std.specs.Prelude.{◌≡◌, ℕ, Bool, true, ◌&&◌, nat_le}
use Rattle.std.specs.List.{list_all}
use Rattle.isle_tidy_layout.specs.Entries.{Lexeme}
use Rattle.isle_tidy_layout.specs.Writing.{spelling}

-- a printable byte of ASCII: it is a character, and ends no line
unfoldable pub is_printable : ℕ → Bool
is_printable b = nat_le 32 b && nat_le b 126

-- what is written of the lexeme is made of these
abbrev pub IsPrintable : Lexeme → Type 0
IsPrintable x = list_all is_printable (spelling x) ≡ true
