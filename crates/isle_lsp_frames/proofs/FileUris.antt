-- The path in a URI.
use Rattle.std.proofs.Common.{◌≡◌, ℕ, ◌+◌, ◌/◌, ◌%◌, ◌<◌, ◌≤◌, List, [], ◌∷◌, ◌++◌, length, get_or, take, drop, Bool, true, false, ◌||◌, ◌==◌, Some, IsUtf8, All, arith, refl, sym, ap, subst, ◌∙◌, ⊎_elim, nat_lt, append_assoc, append-nil}
use Rattle.std.specs.List.{list_any}
use Rattle.std.specs.Char.{IsScalar, encode_utf8}
use Rattle.std.specs.Str.{all_scalars, encode_utf8_all}
use Rattle.std.proofs.lemmas.Bool.{and_parts, both_ways, cond_both, false_from_ne_true, ltb-true}
use Rattle.std.proofs.lemmas.Bool.Decides.{nat_tests}
use Rattle.std.proofs.lemmas.List.{drop_more, take_more, drop_all, take_all}
use Rattle.std.proofs.lemmas.List.Elements.{All-append, All-cons, All-head, All-nil, All-tail}
use Rattle.std.proofs.lemmas.Str.{is_utf8-from_IsUtf8}
use Rattle.std.proofs.Math.Utf8.{scalar_cases}
use Rattle.percent_encoding.specs.AsciiSet.{contains, should_percent_encode}
use Rattle.percent_encoding.specs.Percent.{percent_decode, percent_encode}
use Rattle.percent_encoding.proofs.AsciiSetLemmas.{escaped_from_inside, kept_from_outside}
use Rattle.percent_encoding.proofs.PercentLemmas.{All-percent_encode, IsByte, IsEscapeByte, percent_encode_kept, round_trip}
use Rattle.isle_lsp_frames.specs.Uris.{bare, is_absolute, path_after, path_in, path_with, uri_of, without_host}
use Rattle.isle_lsp_frames.specs.declared.uris.TheConstants.{ESCAPED}

-- ---- the part before a query

-- a question mark or a number sign
abbrev pub is_mark : ℕ → Bool
is_mark b = b == 63 || b == 35

module _ (text : List ℕ) (i : ℕ) (within : i < length text) (so_far : bare text ≡ take i text ++ bare (drop i text)) where
  pub bare_stops : is_mark (get_or text i 0) ≡ true → take i text ≡ bare text
  bare_stops mark = sym (so_far ∙ ap (λ l. take i text ++ bare l) (drop_more text i 0 within) ∙ rw mark (append-nil (take i text)))

  pub bare_goes_on : is_mark (get_or text i 0) ≡ false → bare text ≡ take (i + 1) text ++ bare (drop (i + 1) text)
  bare_goes_on other =
      so_far ∙ ap (λ l. take i text ++ bare l) (drop_more text i 0 within)
      ∙ rw (other, take_more text i 0 within, append_assoc) refl

pub bare_whole : (text : List ℕ) (i : ℕ) → length text ≤ i → bare text ≡ take i text ++ bare (drop i text) → text ≡ bare text
bare_whole text i past so_far =
    sym (so_far ∙ rw (drop_all i text past) (append-nil (take i text) ∙ take_all i text past))

-- a text without marks has no query
pub bare_kept : (text : List ℕ) → All (λ b. is_mark b ≡ false) text → bare text ≡ text
bare_kept [] none = refl
bare_kept (b ∷ bs) none =
    let P : ℕ → Type 0 = λ b. is_mark b ≡ false in
    rw (All-head P b bs none) (ap (λ l. b ∷ l) (bare_kept bs (All-tail P b bs none)))

-- ---- the URI of a path

-- a byte of the set is escaped
not_at : (c b : ℕ) → should_percent_encode ESCAPED b ≡ false → contains ESCAPED c ≡ true → (b == c) ≡ false
not_at c b kept inside =
    false_from_ne_true _ (λ e. let same : b ≡ c = grind (arith, nat_tests) in both_ways _ kept (rw same (escaped_from_inside ESCAPED c inside)))

or_false : {x y : Bool} → x ≡ false → y ≡ false → (x || y) ≡ false
or_false h k = rw (h, k) refl

marks_escaped : (b : ℕ) → should_percent_encode ESCAPED b ≡ false → is_mark b ≡ false
marks_escaped b kept =
    or_false
    (not_at 63 b kept refl)
    (not_at 35 b kept refl)

digits_are_no_marks : (b : ℕ) → IsEscapeByte b → is_mark b ≡ false
digits_are_no_marks b h = grind (arith, nat_tests)

none : All IsByte []
none = All-nil IsByte

small_char : (c : ℕ) → IsScalar c → All IsByte (encode_utf8 c)
unfolding encode_utf8
small_char c h =
    let below : c < 1114112 = ⊎_elim (λ l. omega (arith, l)) (λ r. r.1) (scalar_cases c h) in
    let next : ℕ → ℕ = λ n. 128 + n % 64 in
    let add : (b : ℕ) (bs : List ℕ) → b < 256 → All IsByte bs → All IsByte (b ∷ bs) = All-cons IsByte in
    let last : All IsByte (next c ∷ []) = add (next c) [] (omega arith) none in
    let two : All IsByte (next (c / 64) ∷ next c ∷ []) = add (next (c / 64)) (next c ∷ []) (omega arith) last in
    let three : All IsByte (next (c / 4096) ∷ next (c / 64) ∷ next c ∷ []) = add (next (c / 4096)) (next (c / 64) ∷ next c ∷ []) (omega arith) two in
    cond_both (nat_lt c 128) _ _ (All IsByte) (λ e. let l = ltb-true c 128 e in add c [] (omega (arith, l)) none)
    (λ _. cond_both (nat_lt c 2048) _ _ (All IsByte) (λ e. let l = ltb-true c 2048 e in add (192 + c / 64) (next c ∷ []) (omega (arith, l)) last)
    (λ _. cond_both (nat_lt c 65536) _ _ (All IsByte) (λ e. let l = ltb-true c 65536 e in add (224 + c / 4096) (next (c / 64) ∷ next c ∷ []) (omega (arith, l)) two)
    (λ _. add (240 + c / 262144) (next (c / 4096) ∷ next (c / 64) ∷ next c ∷ []) (omega (arith, below)) three)))

small_text : (cs : List ℕ) → all_scalars cs ≡ true → All IsByte (encode_utf8_all cs)
small_text [] h = none
small_text (c ∷ cs) h =
    let p = and_parts _ _ h in
    All-append IsByte (encode_utf8 c) (encode_utf8_all cs) (small_char c p.0) (small_text cs p.1)

small : (path : List ℕ) → IsUtf8 path → All IsByte path
small path text = subst (All IsByte) text.1.1 (small_text text.0 text.1.0)

-- the escaped path holds no mark, and decodes to the path
encoded : (path : List ℕ) → IsUtf8 path → percent_decode (bare (percent_encode ESCAPED path)) ≡ path
encoded path text =
    ap percent_decode (bare_kept _ (All-percent_encode (λ b. is_mark b ≡ false) ESCAPED path marks_escaped digits_are_no_marks))
    ∙ round_trip ESCAPED path refl (small path text)

whole : (path : List ℕ) → IsUtf8 path → list_any (λ b. b == 0) path ≡ false → path_with path ≡ Some path
whole path text clean = rw (clean, is_utf8-from_IsUtf8 path text) refl

absolute_after : (text path : List ℕ) → text ≡ 47 ∷ path → path_after (without_host text) ≡ path_with (percent_decode (bare text))
absolute_after text path e = rw e refl

pub names_path : (path : List ℕ) → IsUtf8 path → is_absolute path ≡ true → list_any (λ b. b == 0) path ≡ false → path_in (uri_of path) ≡ Some path
unfolding path_in uri_of
names_path [] text absolute clean = cc
names_path (b ∷ bs) text absolute clean =
    let slash : b ≡ 47 = grind (arith, nat_tests) in
    let kept : percent_encode ESCAPED (b ∷ bs) ≡ 47 ∷ percent_encode ESCAPED bs = rw slash (percent_encode_kept ESCAPED 47 bs (kept_from_outside ESCAPED 47 (omega arith) refl)) in
    absolute_after _ _ kept ∙ ap path_with (encoded (b ∷ bs) text) ∙ whole (b ∷ bs) text clean
