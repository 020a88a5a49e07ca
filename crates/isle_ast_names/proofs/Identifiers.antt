-- Whether a text is an identifier, from its first character and its others.
use Rattle.std.proofs.Common.{◌≡◌, ℕ, zero, suc, ◌<◌, nat_lt, List, [], ◌∷◌, true, false, ◌&&◌, Some, None, drop, refl, ap, ◌∙◌, arith}
use borrow.Author.Tests.{ltb-true}
use Rattle.std.specs.List.{list_all, slice_get}
use Rattle.std.specs.Str.{chars, IsAscii, IsUtf8}
use Rattle.std.proofs.lemmas.Bool.{and_parts, and_from}
use Rattle.std.proofs.lemmas.Str.{chars-IsAscii, is_utf8-from_IsUtf8}
use Rattle.isle_base.specs.Skips.{begins_with}
use Rattle.isle_ast_names.specs.Identifier.{is_identifier, is_ascii_identifier, are_identifier, begins_identifier, continues_identifier, continues_in_ascii}

ascii_cons : (b : ℕ) (bs : List ℕ) → b < 128 → IsAscii bs → IsAscii (b ∷ bs)
ascii_cons b bs h each zero = h
ascii_cons b bs h each (suc i) = each i

are_identifier_none : (cs : List ℕ) → slice_get cs 0 ≡ None → are_identifier cs ≡ false
are_identifier_none [] e = refl
are_identifier_none (c ∷ cs) e = cc

are_identifier_some : (cs : List ℕ) (first : ℕ) → slice_get cs 0 ≡ Some first →
    are_identifier cs ≡ (begins_identifier first && list_all continues_identifier (drop 1 cs))
are_identifier_some [] first e = cc
are_identifier_some (c ∷ cs) first e =
    let same : c ≡ first = cc in
    ap (λ x. begins_identifier x && list_all continues_identifier cs) same

identifier_is : (text : List ℕ) → IsUtf8 text → is_identifier text ≡ are_identifier (chars text)
unfolding is_identifier
identifier_is text u = ap (λ b. b && are_identifier (chars text)) (is_utf8-from_IsUtf8 text u)

-- a text with no first character
pub identifier_none : (text : List ℕ) → IsUtf8 text → slice_get (chars text) 0 ≡ None → is_identifier text ≡ false
identifier_none text u e = identifier_is text u ∙ are_identifier_none (chars text) e

identifier_some : (text : List ℕ) (first : ℕ) → IsUtf8 text → slice_get (chars text) 0 ≡ Some first →
    is_identifier text ≡ (begins_identifier first && list_all continues_identifier (drop 1 (chars text)))
identifier_some text first u e = identifier_is text u ∙ are_identifier_some (chars text) first e

-- a text with a first character that may begin an identifier
pub identifier_begun : (text : List ℕ) (first : ℕ) → IsUtf8 text → slice_get (chars text) 0 ≡ Some first →
    begins_identifier first ≡ true → is_identifier text ≡ list_all continues_identifier (drop 1 (chars text))
identifier_begun text first u e begun =
    identifier_some text first u e ∙ ap (λ b. b && list_all continues_identifier (drop 1 (chars text))) begun

-- a text with a first character that may not
pub identifier_not_begun : (text : List ℕ) (first : ℕ) → IsUtf8 text → slice_get (chars text) 0 ≡ Some first →
    begins_identifier first ≡ false → is_identifier text ≡ false
identifier_not_begun text first u e begun =
    identifier_some text first u e ∙ ap (λ b. b && list_all continues_identifier (drop 1 (chars text))) begun

-- each byte is one of ASCII, and may stand in an identifier
ascii_continues : (bs : List ℕ) → list_all continues_in_ascii bs ≡ true → IsAscii bs × (list_all continues_identifier bs ≡ true)
ascii_continues [] e = (λ i. omega arith, refl)
ascii_continues (b ∷ bs) e =
    let p = and_parts (continues_in_ascii b) (list_all continues_in_ascii bs) e in
    let q = and_parts (nat_lt b 128) (continues_identifier b) p.0 in
    let rest = ascii_continues bs p.1 in
    (ascii_cons b bs (ltb-true b 128 q.0) rest.0, and_from (continues_identifier b) (list_all continues_identifier bs) q.1 rest.1)

ascii_is : (bs : List ℕ) → begins_with begins_identifier bs ≡ true → list_all continues_identifier bs ≡ true → are_identifier bs ≡ true
ascii_is [] begun each = cc
ascii_is (b ∷ bs) begun each = and_from (begins_identifier b) (list_all continues_identifier bs) begun (and_parts (continues_identifier b) (list_all continues_identifier bs) each).1

-- an identifier of ASCII characters is one
pub ascii_identifier : (text : List ℕ) → IsUtf8 text → is_ascii_identifier text ≡ true → is_identifier text ≡ true
ascii_identifier text u e =
    let p = and_parts (begins_with begins_identifier text) (list_all continues_in_ascii text) e in
    let q = ascii_continues text p.1 in
    identifier_is text u ∙ ap are_identifier (chars-IsAscii text q.0) ∙ ascii_is text p.0 q.1
