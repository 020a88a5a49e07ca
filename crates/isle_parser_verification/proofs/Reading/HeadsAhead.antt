-- Where no token is ahead that can be a head, no head is.
use Rattle.std.proofs.Common.{◌≡◌, true, false, List, [], ◌∷◌, None, refl}
use Rattle.std.proofs.lemmas.Bool.{not-false}
use Rattle.isle_base.specs.Place.{Placed}
use Rattle.isle_base.specs.Token.{Tok, lparen, rparen, symbol, integer, at_sign}
use Rattle.isle_parser_cursor.specs.declared.cursor.Stop.{Stop}
use Rattle.isle_parser_cursor.specs.Outcomes.{IsParserRefusal, CursorSource, Stops}
use Rattle.isle_parser_cursor.specs.Reading.{is_ahead, text}
use Rattle.isle_parser_verification.specs.SpecWords.{can_be_head, spec_head}
use Rattle.isle_parser_cursor.proofs.Ahead.{stopped}
use Rattle.isle_parser_verification.proofs.Words.Specs.{bits_are_no_head}

no_head_at : (x : Placed) (rest : List Placed) (t : Tok) → x.token ≡ t → can_be_head t ≡ false → spec_head (x ∷ rest) ≡ None
unfolding text
no_head_at x rest lparen is e = rw is refl
no_head_at x rest rparen is e = rw is refl
no_head_at x rest (symbol word) is e = rw (is, bits_are_no_head word (not-false _ e)) refl
no_head_at x rest (integer _) is e = rw is refl
no_head_at x rest at_sign is e = rw is refl

no_head : (all : List Placed) → is_ahead can_be_head all ≡ false → spec_head all ≡ None
unfolding text
no_head [] e = refl
no_head (x ∷ rest) e = no_head_at x rest x.token refl e

pub head_refused : (all : List Placed) (s : CursorSource) (e : Stop) → is_ahead can_be_head all ≡ false → IsParserRefusal s e → Stops (spec_head all) s e
head_refused all s e other h = stopped (spec_head all) s e (no_head all other) h
