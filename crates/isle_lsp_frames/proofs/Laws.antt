-- What is written reads back.
use Rattle.std.proofs.Common.{◌≡◌, ℕ, ◌-◌, ◌^◌, ◌<◌, ◌≤◌, List, [], ◌∷◌, ◌++◌, length, Bool, true, false, None, Some, Ok, arith, refl, sym, ◌∙◌, ap, reverse, codes, decimal, append_assoc, length-append, ◌==◌, ◌||◌, nat_lt}
use Rattle.std.specs.Io.BufRead.{take_through, drop_through}
use Rattle.std.specs.Char.{is_ascii_digit}
use Rattle.std.specs.List.{list_any}
use Rattle.std.specs.Str.{all_ascii_digits}
use Rattle.std.proofs.lemmas.Bool.{and_parts, le-ltb}
use Rattle.std.proofs.lemmas.List.{take_at, drop_at, reverse-reverse}
use Rattle.std.proofs.lemmas.List.Sorted.{IsPermutation-reverse, list_any-IsPermutation}
use Rattle.std.proofs.lemmas.Fmt.{decimal_is_IsNumeral, length-decimal-le}
use Rattle.std.proofs.lemmas.Bool.Decides.{nat_tests}
use Rattle.isle_lsp_frames.specs.Frames.{frame, head, frame_at, head_at, header_length, field_length, number_of, after_blanks, without_blanks, said_length, length_after}
use Rattle.isle_lsp_frames.proofs.Numbers.{own, number_again}
use Rattle.isle_lsp_frames.proofs.Heads.{blank, more}
use Rattle.isle_lsp_frames.proofs.Whole.{body_ok, frame_ok}

digit_no_lf : (c : ℕ) → is_ascii_digit c ≡ true → (c == 10) ≡ false
digit_no_lf c h = grind (arith, nat_tests)

through_digits : (ds rest : List ℕ) → all_ascii_digits ds ≡ true → take_through 10 (ds ++ 13 ∷ 10 ∷ rest) ≡ ds ++ 13 ∷ 10 ∷ []
through_digits [] rest h = refl
through_digits (c ∷ ds) rest h =
    let p = and_parts _ _ h in
    rw (digit_no_lf c p.0) (ap (λ l. c ∷ l) (through_digits ds rest p.1))

past_digits : (ds rest : List ℕ) → all_ascii_digits ds ≡ true → drop_through 10 (ds ++ 13 ∷ 10 ∷ rest) ≡ rest
past_digits [] rest h = refl
past_digits (c ∷ ds) rest h =
    let p = and_parts _ _ h in
    rw (digit_no_lf c p.0) (past_digits ds rest p.1)

header_line : (field : List ℕ) → length field ≤ 4000 → header_length (field ++ 13 ∷ 10 ∷ []) ≡ field_length field
unfolding header_length
header_line field h =
    let n : length (field ++ 13 ∷ 10 ∷ []) - 2 ≡ length field = omega (arith, length-append field (13 ∷ 10 ∷ [])) in
    let short : nat_lt 4096 (length (field ++ 13 ∷ 10 ∷ [])) ≡ false = le-ltb _ _ (omega (arith, length-append field (13 ∷ 10 ∷ []))) in
    rw (short, n, take_at field (13 ∷ 10 ∷ []) (length field) refl, drop_at field (13 ∷ 10 ∷ []) (length field) refl) refl

first_digit : (c : ℕ) → is_ascii_digit c ≡ true → (c == 32 || c == 9) ≡ false
first_digit c h = grind (arith, nat_tests)

is_blank : ℕ → Bool
is_blank c = c == 32 || c == 9

or_left : (x y : Bool) → (x || y) ≡ false → x ≡ false
or_left false y h = refl
or_left true y h = h

no_blanks : (digits : List ℕ) → list_any is_blank digits ≡ false → after_blanks digits ≡ digits
unfolding is_blank
no_blanks [] h = refl
no_blanks (c ∷ ds) h = rw (or_left (c == 32 || c == 9) (list_any is_blank ds) h) refl

without_any : (digits : List ℕ) → all_ascii_digits digits ≡ true → list_any is_blank digits ≡ false
unfolding is_blank
without_any [] h = refl
without_any (c ∷ ds) h = let p = and_parts _ _ h in rw (first_digit c p.0) (without_any ds p.1)

bare_digits : (digits : List ℕ) → all_ascii_digits digits ≡ true → without_blanks digits ≡ digits
bare_digits digits h =
    let none = without_any digits h in
    let back = list_any-IsPermutation is_blank digits (reverse digits) (IsPermutation-reverse digits) in
    ap (λ l. reverse (after_blanks (reverse l))) (no_blanks digits none) ∙ ap reverse (no_blanks (reverse digits) (sym back ∙ none)) ∙ reverse-reverse digits

field_line : (digits : List ℕ) → all_ascii_digits digits ≡ true → field_length (codes "Content-Length: " ++ digits) ≡ said_length (number_of digits)
unfolding field_length
field_line digits h = ap (λ ds. said_length (number_of ds)) (bare_digits digits h)

-- what is left of the 4096 bytes of a line, 16 of which are the name, its colon and a space, and 2 its end
few_digits : (n : ℕ) → n < 2 ^ 64 → length (decimal n) ≤ 20
few_digits n h = length-decimal-le 20 n (omega arith) (omega arith) h

length_line : (n : ℕ) → n < 2 ^ 64 → header_length ((codes "Content-Length: " ++ decimal n) ++ 13 ∷ 10 ∷ []) ≡ Ok (Some n)
length_line n h =
    let digits : all_ascii_digits (decimal n) ≡ true = own.from _ (decimal_is_IsNumeral n h).0.1 in
    let few = few_digits n h in
    header_line (codes "Content-Length: " ++ decimal n) (omega (arith, few)) ∙ field_line (decimal n) digits ∙ ap said_length (number_again n h)

known_line : (n : ℕ) → n < 2 ^ 64 → length_after ((codes "Content-Length: " ++ decimal n) ++ 13 ∷ 10 ∷ []) None ≡ Ok (Some n)
unfolding length_after
known_line n h = rw (length_line n h) refl

head_again : (n : ℕ) (rest : List ℕ) → n < 2 ^ 64 → head_at 16 None (codes "Content-Length: " ++ (decimal n ++ 13 ∷ 10 ∷ 13 ∷ 10 ∷ rest)) ≡ Ok (n, rest)
head_again n rest h =
    let digits : all_ascii_digits (decimal n) ≡ true = own.from _ (decimal_is_IsNumeral n h).0.1 in
    let bytes : List ℕ = codes "Content-Length: " ++ (decimal n ++ 13 ∷ 10 ∷ 13 ∷ 10 ∷ rest) in
    let line : take_through 10 bytes ≡ (codes "Content-Length: " ++ decimal n) ++ 13 ∷ 10 ∷ [] = ap (λ l. codes "Content-Length: " ++ l) (through_digits (decimal n) (13 ∷ 10 ∷ rest) digits) in
    let after : drop_through 10 bytes ≡ 13 ∷ 10 ∷ rest = past_digits (decimal n) (13 ∷ 10 ∷ rest) digits in
    more 15 None (Some n) bytes refl (ap (λ l. length_after l None) line ∙ known_line n h)
    ∙ ap (head_at 15 (Some n)) after ∙ blank 14 (Some n) (13 ∷ 10 ∷ rest) refl

pub frame_again : (body rest : List ℕ) → length body ≤ 67108864 → frame_at (frame body ++ rest) ≡ Ok (Some body, rest)
frame_again body rest h =
    let n : ℕ = length body in
    let inner : (decimal n ++ 13 ∷ 10 ∷ 13 ∷ 10 ∷ []) ++ (body ++ rest) ≡ decimal n ++ 13 ∷ 10 ∷ 13 ∷ 10 ∷ (body ++ rest) = append_assoc (decimal n) (13 ∷ 10 ∷ 13 ∷ 10 ∷ []) (body ++ rest) in
    let regroup : frame body ++ rest ≡ codes "Content-Length: " ++ (decimal n ++ 13 ∷ 10 ∷ 13 ∷ 10 ∷ (body ++ rest)) = append_assoc (head n) body rest ∙ ap (λ l. codes "Content-Length: " ++ l) inner in
    ap frame_at regroup ∙ frame_ok n _ (body ++ rest) body rest (omega arith) (head_again n (body ++ rest) (omega arith)) (body_ok n body rest refl h)
