-- The bytes used in definitions: the codes of characters, each under its character's name.
use Rattle.std.specs.Prelude.{ℕ}

abbrev pub line_feed : ℕ
line_feed = 10
