-- What was taken where one token alone is wanted is that token.
use Rattle.std.proofs.Common.{◌≡◌, true, List, Some, refl}
use Rattle.isle_base.specs.Place.{Placed}
use Rattle.isle_base.specs.Token.{Tok, at_sign, integer, lparen, rparen, symbol}
use Rattle.isle_parser_cursor.specs.Reading.{expect, is_at, is_lparen, is_rparen}
use Rattle.isle_parser_cursor.proofs.Readers.{expect_sound, lparen_sound, lparen_complete, rparen_sound, rparen_complete}

pub expected_lparen : (all rest : List Placed) (t : Tok) → expect is_lparen all ≡ Some (t, rest) → expect is_lparen all ≡ Some (lparen, rest)
expected_lparen all rest t e = lparen_complete all rest (lparen_sound all rest t e)

pub expected_rparen : (all rest : List Placed) (t : Tok) → expect is_rparen all ≡ Some (t, rest) → expect is_rparen all ≡ Some (rparen, rest)
expected_rparen all rest t e = rparen_complete all rest (rparen_sound all rest t e)

pub is_at-is : (t : Tok) → is_at t ≡ true → t ≡ at_sign
is_at-is lparen e = absurd cc
is_at-is rparen e = absurd cc
is_at-is (symbol s) e = absurd cc
is_at-is (integer n) e = absurd cc
is_at-is at_sign e = refl

pub expected_at : (all rest : List Placed) (t : Tok) → expect is_at all ≡ Some (t, rest) → expect is_at all ≡ Some (at_sign, rest)
expected_at all rest t e =
    let h = expect_sound is_at at_sign is_at-is all rest t e in
    rw h.1 refl
