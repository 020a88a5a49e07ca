-- A lexer has the same token ahead as its scanner.
use Rattle.std.specs.Prelude.{◌≡◌, option_map}
use Rattle.isle_base.specs.declared.lexer.Lexer.TheInside.{Inside}
use Rattle.isle_base.specs.Steps.{lookahead, placed_of}

abbrev pub IsLexer : Inside → Type 0
IsLexer a = option_map placed_of a.lookahead ≡ lookahead a.scanner
