-- What lies ahead of a cursor, by what its lexer has still to give.
use Rattle.std.proofs.Common.{◌≡◌, ℕ, ◌≤◌, Bool, true, false, cond, List, [], ◌∷◌, Option, None, Some, Err, refl, sym, ap, subst, ◌∙◌, arith}
use Rattle.isle_base_source.specs.declared.pos.Pos.{Pos}
use Rattle.isle_base.specs.Place.{Placed, in_file, unknown, nowhere, placed}
use Rattle.isle_base.specs.Steps.{AreWithin, IsWithin, RefusesAt, first_placed, lookahead}
use Rattle.isle_base.specs.Token.{Lexeme, Feed}
use Rattle.isle_parser_cursor.specs.declared.cursor.Cursor.{Cursor}
use Rattle.isle_parser_cursor.specs.declared.cursor.Stop.{Stop}
use Rattle.isle_parser_cursor.specs.Outcomes.{IsPlace, IsParserRefusal, IsRefusalAt, PassesOrRefuses, CursorSource, Stops, left, tokens}
use Rattle.isle_parser_cursor.specs.Reading.{pos_ahead}
use Rattle.isle_parser_cursor.specs.declared.cursor.Stop.TheVariants as stops

-- ---- what is left to take

pub left_unspent : (p : Cursor) → p.is_spent ≡ false → left p ≡ tokens p
unfolding left
left_unspent p e = rw e refl

pub left_spent : (p : Cursor) → p.is_spent ≡ true → left p ≡ []
unfolding left
left_spent p e = rw e refl

-- without positions each token is at the unknown place
pub unknown_ahead : (xs : List Lexeme) → pos_ahead (placed nowhere xs) ≡ unknown
unknown_ahead [] = refl
unknown_ahead (x ∷ xs) = refl

nowhere_if : (spent : Bool) (all : List Placed) → pos_ahead all ≡ unknown → pos_ahead (cond spent [] all) ≡ unknown
nowhere_if true all e = refl
nowhere_if false all e = e

pub nowhere_left : (p : Cursor) → p.disable_pos ≡ true → pos_ahead (left p) ≡ unknown
unfolding left
nowhere_left p e = nowhere_if p.is_spent (tokens p) (rw e (unknown_ahead p.scanner.coming))

pub is_unknown : (pos : Pos) → pos.file ≡ 0 → pos.offset ≡ 0 → pos ≡ unknown
is_unknown pos e f = ap (λ (n : ℕ). in_file n pos.offset) e ∙ ap (λ (n : ℕ). in_file 0 n) f

-- the parser's rejection at a place
pub refusal_at : (s : CursorSource) (pos : Pos) (e : Stop) → IsPlace s pos → IsRefusalAt pos e → IsParserRefusal s e
refusal_at s pos (stops.Parser e) p h =
    let is : pos ≡ in_file s.file pos.offset = ap (λ (n : ℕ). in_file n pos.offset) p.file in
    (pos.offset, p.offset, subst (λ (q : Pos). RefusesAt q e.value) is h)
refusal_at s pos stops.Memory p h = tt

-- a test that isn't passed is rejected at its place
pub judged : (X : Type 0) (passed : Bool) (s : CursorSource) (pos : Pos) (e : Stop) → false ≡ passed → IsPlace s pos → IsRefusalAt pos e → PassesOrRefuses {X = X} passed s (Err e)
judged X passed s pos (stops.Parser e) test p h = (sym test, refusal_at s pos (stops.Parser e) p h)
judged X passed s pos stops.Memory test p h = tt

first_within : (file : ℕ) (xs : List Lexeme) (size : ℕ) (x : Placed) → Some x ≡ first_placed file xs → AreWithin size xs → (x.pos.file ≡ file) × (x.pos.offset ≤ size)
first_within file [] size x e h = absurd cc
first_within file (y ∷ ys) size x e h =
    let within : y.offset ≤ size = h.0 in
    let is : x ≡ record { pos = record { file = file; offset = y.offset }; token = y.token } = cc in
    rw is (refl, within)

-- the token ahead begins within the text
pub place_ahead : (feed : Feed) (s : CursorSource) (x : Placed) → Some x ≡ lookahead feed → IsWithin feed → s.file ≡ feed.file → s.size ≡ feed.size → IsPlace s x.pos
place_ahead feed s x e h file size =
    let w = first_within feed.file feed.coming feed.size x e h.tokens in
    record { file = w.0 ∙ sym file; offset = omega (arith, w.1, size); short = omega (arith, h.short, size) }

-- where reading gives nothing, the parser's rejection stops it
pub stopped : {Y : Type 0} (read : Option (Y × List Placed)) (s : CursorSource) (e : Stop) → read ≡ None → IsParserRefusal s e → Stops read s e
stopped read s (stops.Parser e) none h = (none, h)
stopped read s stops.Memory none h = tt
