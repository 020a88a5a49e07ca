-- A string that the parser reads is read the same once it is mended.
use Rattle.std.proofs.Common.{◌≡◌, ℕ, zero, suc, ◌+◌, ◌*◌, ◌<◌, ◌≤◌, List, [], ◌∷◌, length, drop, cond, Bool, true, false, ◌&&◌, ◌||◌, ◌==◌, nat_le, nat_lt, not, Option, None, Some, option_and_then, inl, inr, arith, refl, sym, ap, ◌∙◌}
use Rattle.std.specs.Char.{digit_value, is_digit, encode_utf8}
use Rattle.std.proofs.lemmas.Bool.{and_parts, cases_Bool, cond-false, cond-true, false_from_ne_true, ltb-true}
use Rattle.std.proofs.lemmas.Bool.Decides.{nat_tests}
use Rattle.json.specs.Text.{after_high, code_unit, content, is_high_surrogate, is_low_surrogate, plain, prepend, short_escape, surrogate_pair}
use Rattle.isle_lsp_frames.specs.Mending.{is_half, is_high, is_lone, is_low, mended_after}
use Rattle.isle_lsp_frames.proofs.Mendings.{byte_kept, escape_is, half_is, mended_short}

-- ---- what mending keeps

-- a backslash and the byte behind it, unless they begin the escape of a half
escape_kept : (paired : Bool) (b u : ℕ) (bs : List ℕ) → (b == 92) ≡ true → is_half (b ∷ u ∷ bs) ≡ false → mended_after paired (b ∷ u ∷ bs) ≡ b ∷ u ∷ mended_after false bs
escape_kept paired b u [] e h = mended_short paired (b ∷ u ∷ []) (omega arith) ∙ ap (λ l. b ∷ u ∷ l) (sym (mended_short false [] (omega arith)))
escape_kept paired b u (a1 ∷ []) e h = mended_short paired (b ∷ u ∷ a1 ∷ []) (omega arith) ∙ ap (λ l. b ∷ u ∷ l) (sym (mended_short false (a1 ∷ []) (omega arith)))
escape_kept paired b u (a1 ∷ a2 ∷ []) e h = mended_short paired (b ∷ u ∷ a1 ∷ a2 ∷ []) (omega arith) ∙ ap (λ l. b ∷ u ∷ l) (sym (mended_short false (a1 ∷ a2 ∷ []) (omega arith)))
escape_kept paired b u (a1 ∷ a2 ∷ a3 ∷ []) e h = mended_short paired (b ∷ u ∷ a1 ∷ a2 ∷ a3 ∷ []) (omega arith) ∙ ap (λ l. b ∷ u ∷ l) (sym (mended_short false (a1 ∷ a2 ∷ a3 ∷ []) (omega arith)))
escape_kept paired b u (a1 ∷ a2 ∷ a3 ∷ a4 ∷ rest) e h = escape_is paired b u a1 a2 a3 a4 rest h e

-- a half that is not alone
half_kept : (paired : Bool) (b u x y z w : ℕ) (rest : List ℕ) → is_half (b ∷ u ∷ x ∷ y ∷ z ∷ w ∷ rest) ≡ true → is_lone paired (b ∷ u ∷ x ∷ y ∷ z ∷ w ∷ rest) ≡ false →
    mended_after paired (b ∷ u ∷ x ∷ y ∷ z ∷ w ∷ rest) ≡ b ∷ u ∷ x ∷ y ∷ z ∷ w ∷ mended_after (is_high (b ∷ u ∷ x ∷ y ∷ z ∷ w ∷ rest)) rest
half_kept paired b u x y z w rest h e = half_is paired b u x y z w rest h ∙ rw e refl

digit_no_escape : (c : ℕ) → is_digit c 16 ≡ true → (c == 92) ≡ false
digit_no_escape c h = false_from_ne_true _ (λ e. let same : c ≡ 92 = grind (arith, nat_tests) in let no : is_digit 92 16 ≡ true = rw same at h in cc)

digits_kept : (a b c d : ℕ) (rest : List ℕ) → is_digit a 16 ≡ true → is_digit b 16 ≡ true → is_digit c 16 ≡ true → is_digit d 16 ≡ true →
    mended_after false (a ∷ b ∷ c ∷ d ∷ rest) ≡ a ∷ b ∷ c ∷ d ∷ mended_after false rest
digits_kept a b c d rest h i j k =
    byte_kept false a (b ∷ c ∷ d ∷ rest) (digit_no_escape a h)
    ∙ ap (λ l. a ∷ l) (byte_kept false b (c ∷ d ∷ rest) (digit_no_escape b i) ∙ ap (λ l. b ∷ l) (byte_kept false c (d ∷ rest) (digit_no_escape c j) ∙ ap (λ l. c ∷ l) (byte_kept false d rest (digit_no_escape d k))))

-- ---- code units

record Unit4 (a b c d v : ℕ) : Type 0 where
  first : is_digit a 16 ≡ true
  second : is_digit b 16 ≡ true
  third : is_digit c 16 ≡ true
  fourth : is_digit d 16 ≡ true
  value : v ≡ digit_value a * 4096 + digit_value b * 256 + digit_value c * 16 + digit_value d

unit_parts : (a b c d v : ℕ) → code_unit a b c d ≡ Some v → Unit4 a b c d v
unfolding code_unit
unit_parts a b c d v e =
    elim (cases_Bool (is_digit a 16 && is_digit b 16 && is_digit c 16 && is_digit d 16)) [
      | inl h ↦
          let p = and_parts _ _ h in
          let q = and_parts _ _ p.0 in
          let r = and_parts _ _ q.0 in
          let same : Some (digit_value a * 4096 + digit_value b * 256 + digit_value c * 16 + digit_value d) ≡ Some v = rw h at e in
          record { first = r.0; second = r.1; third = q.1; fourth = p.1; value = cc }
      | inr h ↦ let no : None ≡ Some v = rw h at e in absurd cc
    ]

same_test : (x y : Bool) → (x ≡ true → y ≡ true) → (y ≡ true → x ≡ true) → x ≡ y
same_test true y f g = sym (f refl)
same_test false y f g = sym (false_from_ne_true y (λ e. let no : false ≡ true = g e in absurd cc))

-- the second digit tells the halves
high_numbers : (a b c d v : ℕ) → a < 16 → b < 16 → c < 16 → d < 16 → v ≡ a * 4096 + b * 256 + c * 16 + d → (a == 13 && nat_le 8 b && nat_lt b 12) ≡ is_high_surrogate v
high_numbers a b c d v h i j k e = grind (arith, nat_tests)

low_numbers : (a b c d v : ℕ) → a < 16 → b < 16 → c < 16 → d < 16 → v ≡ a * 4096 + b * 256 + c * 16 + d → (a == 13 && nat_le 12 b && nat_lt b 16) ≡ is_low_surrogate v
low_numbers a b c d v h i j k e = grind (arith, nat_tests)

under : (c : ℕ) → is_digit c 16 ≡ true → digit_value c < 16
under c h = ltb-true (digit_value c) 16 h

both_digits : (x y z : Bool) → y ≡ true → z ≡ true → (x && y && z) ≡ x
both_digits true y z h k = rw (h, k) refl
both_digits false y z h k = refl

module _ (a b c d v : ℕ) (unit : Unit4 a b c d v) (rest : List ℕ) where
  high_escape : is_high (92 ∷ 117 ∷ a ∷ b ∷ c ∷ d ∷ rest) ≡ is_high_surrogate v
  unfolding is_high
  high_escape =
      both_digits (digit_value a == 13 && nat_le 8 (digit_value b) && nat_lt (digit_value b) 12) (is_digit c 16) (is_digit d 16) unit.third unit.fourth
      ∙ high_numbers (digit_value a) (digit_value b) (digit_value c) (digit_value d) v (under a unit.first) (under b unit.second) (under c unit.third) (under d unit.fourth) unit.value

  low_escape : is_low (92 ∷ 117 ∷ a ∷ b ∷ c ∷ d ∷ rest) ≡ is_low_surrogate v
  unfolding is_low
  low_escape =
      both_digits (digit_value a == 13 && nat_le 12 (digit_value b) && nat_lt (digit_value b) 16) (is_digit c 16) (is_digit d 16) unit.third unit.fourth
      ∙ low_numbers (digit_value a) (digit_value b) (digit_value c) (digit_value d) v (under a unit.first) (under b unit.second) (under c unit.third) (under d unit.fourth) unit.value

  digits : mended_after false (a ∷ b ∷ c ∷ d ∷ rest) ≡ a ∷ b ∷ c ∷ d ∷ mended_after false rest
  digits = digits_kept a b c d rest unit.first unit.second unit.third unit.fourth

-- ---- results that stay

-- a text that is read stays
abbrev Stays : Option (List ℕ) → Option (List ℕ) → Type 0
Stays old new = (text : List ℕ) → old ≡ Some text → new ≡ Some text

none_stays : (old new : Option (List ℕ)) → old ≡ None → Stays old new
none_stays old new e = λ text f. let no : None ≡ Some text = sym e ∙ f in absurd cc

same_stays : (old new : Option (List ℕ)) → old ≡ new → Stays old new
same_stays old new e = λ text f. sym e ∙ f

prepend_stays : (front : List ℕ) (old new : Option (List ℕ)) → Stays old new → Stays (prepend front old) (prepend front new)
prepend_stays front None new s = none_stays None (prepend front new) refl
prepend_stays front (Some t) new s = λ text e. rw (s t refl) e

then_stays : (f g : ℕ → Option (List ℕ)) (o : Option ℕ) → ((c : ℕ) → o ≡ Some c → Stays (f c) (g c)) → Stays (option_and_then f o) (option_and_then g o)
then_stays f g None s = none_stays None None refl
then_stays f g (Some c) s = s c refl

cond_stays : (b : Bool) (x y z w : Option (List ℕ)) → (b ≡ true → Stays x z) → (b ≡ false → Stays y w) → Stays (cond b x y) (cond b z w)
cond_stays true x y z w f g = f refl
cond_stays false x y z w f g = g refl

to_stays : (old a b new : Option (List ℕ)) → old ≡ a → new ≡ b → Stays a b → Stays old new
to_stays old a b new e f s = λ text h. f ∙ s text (sym e ∙ h)

abbrev after_pair : (high : ℕ) → List ℕ → ℕ → Option (List ℕ)
after_pair high bytes l = cond (is_low_surrogate l) (prepend (encode_utf8 (surrogate_pair high l)) (content plain bytes)) None

abbrev after_unit : List ℕ → ℕ → Option (List ℕ)
after_unit bytes v = cond (is_high_surrogate v) (content (after_high v) bytes) (cond (is_low_surrogate v) None (prepend (encode_utf8 v) (content plain bytes)))

unit_content : (a b c d : ℕ) (bytes : List ℕ) → content plain (92 ∷ 117 ∷ a ∷ b ∷ c ∷ d ∷ bytes) ≡ option_and_then (after_unit bytes) (code_unit a b c d)
unfolding content
unit_content a b c d bytes = refl

pair_content : (high a b c d : ℕ) (bytes : List ℕ) → content (after_high high) (92 ∷ 117 ∷ a ∷ b ∷ c ∷ d ∷ bytes) ≡ option_and_then (after_pair high bytes) (code_unit a b c d)
unfolding content
pair_content high a b c d bytes = refl

backslash_content : (u : ℕ) (bytes : List ℕ) → (u == 117) ≡ false → content plain (92 ∷ u ∷ bytes) ≡ option_and_then (λ c. prepend (c ∷ []) (content plain bytes)) (short_escape u)
unfolding content
backslash_content u bytes e = rw e refl

byte_content : (x : ℕ) (bytes : List ℕ) → (x == 34) ≡ false → (x == 92) ≡ false → content plain (x ∷ bytes) ≡ cond (nat_lt x 32) None (prepend (x ∷ []) (content plain bytes))
unfolding content
byte_content x bytes e f = rw (e, f) refl

quote_content : (x : ℕ) (bytes : List ℕ) → (x == 34) ≡ true → content plain (x ∷ bytes) ≡ Some []
unfolding content
quote_content x bytes e = rw e refl

-- ---- strings

abbrev StringsStay : ℕ → Type 0
StringsStay n = (bytes : List ℕ) → length bytes ≤ n → Stays (content plain bytes) (content plain (mended_after false bytes))

not_both : (v : ℕ) → is_high_surrogate v ≡ true → is_low_surrogate v ≡ false
not_both v h = grind (arith, nat_tests)

high_is_half : (bytes : List ℕ) → is_high bytes ≡ true → is_half bytes ≡ true
high_is_half bytes h = rw h refl

low_is_half : (bytes : List ℕ) → is_high bytes ≡ false → is_low bytes ≡ true → is_half bytes ≡ true
low_is_half bytes h l = rw (h, l) refl

neither_is_half : (bytes : List ℕ) → is_high bytes ≡ false → is_low bytes ≡ false → is_half bytes ≡ false
neither_is_half bytes h l = rw (h, l) refl

number_from : (m n : ℕ) → (m == n) ≡ true → m ≡ n
number_from m n h = grind (arith, nat_tests)

not_first : (v : ℕ) → is_low_surrogate v ≡ true → is_high_surrogate v ≡ false
not_first v h = grind (arith, nat_tests)

no_half_after : (u : ℕ) (bytes : List ℕ) → (u == 117) ≡ false → is_half (92 ∷ u ∷ bytes) ≡ false
unfolding is_high is_low
no_half_after u [] e = refl
no_half_after u (a1 ∷ []) e = refl
no_half_after u (a1 ∷ a2 ∷ []) e = refl
no_half_after u (a1 ∷ a2 ∷ a3 ∷ []) e = refl
no_half_after u (a1 ∷ a2 ∷ a3 ∷ a4 ∷ rest) e = rw e refl

no_pair : (high s t a b c d : ℕ) (rest : List ℕ) → ((s == 92) && (t == 117)) ≡ false → content (after_high high) (s ∷ t ∷ a ∷ b ∷ c ∷ d ∷ rest) ≡ None
unfolding content
no_pair high s t a b c d rest e = cond-false _ _ _ e

cases_not : (x next low paired : Bool) → next ≡ true → low ≡ false → ((x && not next) || (low && not paired)) ≡ false
cases_not true next low paired e f = rw (e, f) refl
cases_not false next low paired e f = rw f refl

cases_second : (high next low : Bool) → high ≡ false → ((high && next) || (low && not true)) ≡ false
cases_second high next true h = rw h refl
cases_second high next false h = rw h refl

first_not_lone : (paired : Bool) (bytes : List ℕ) → is_low bytes ≡ false → is_low (drop 6 bytes) ≡ true → is_lone paired bytes ≡ false
unfolding is_lone
first_not_lone paired bytes l next = cases_not (is_high bytes) (is_low (drop 6 bytes)) (is_low bytes) paired next l

second_not_lone : (bytes : List ℕ) → is_high bytes ≡ false → is_lone true bytes ≡ false
unfolding is_lone
second_not_lone bytes h = cases_second (is_high bytes) (not (is_low (drop 6 bytes))) (is_low bytes) h

-- a pair stays
module _ (n v : ℕ) (a b c d : ℕ) (unit : Unit4 a b c d v) (is_unit : code_unit a b c d ≡ Some v) (high : is_high_surrogate v ≡ true) (stay : StringsStay n) where
  pair_mended : (a' b' c' d' l : ℕ) (rest : List ℕ) → Unit4 a' b' c' d' l → is_low_surrogate l ≡ true →
      mended_after false (92 ∷ 117 ∷ a ∷ b ∷ c ∷ d ∷ 92 ∷ 117 ∷ a' ∷ b' ∷ c' ∷ d' ∷ rest) ≡ 92 ∷ 117 ∷ a ∷ b ∷ c ∷ d ∷ 92 ∷ 117 ∷ a' ∷ b' ∷ c' ∷ d' ∷ mended_after false rest
  pair_mended a' b' c' d' l rest unit' low =
      let next : List ℕ = 92 ∷ 117 ∷ a' ∷ b' ∷ c' ∷ d' ∷ rest in
      let all : List ℕ = 92 ∷ 117 ∷ a ∷ b ∷ c ∷ d ∷ next in
      let first : is_high all ≡ true = high_escape a b c d v unit next ∙ high in
      let no_second : is_low all ≡ false = low_escape a b c d v unit next ∙ not_both v high in
      let second : is_low next ≡ true = low_escape a' b' c' d' l unit' rest ∙ low in
      let no_first : is_high next ≡ false = high_escape a' b' c' d' l unit' rest ∙ not_first l low in
      half_kept false 92 117 a b c d next (high_is_half all first) (first_not_lone false all no_second second)
      ∙ ap (λ p. 92 ∷ 117 ∷ a ∷ b ∷ c ∷ d ∷ mended_after p next) first
      ∙ ap (λ t. 92 ∷ 117 ∷ a ∷ b ∷ c ∷ d ∷ t) (half_kept true 92 117 a' b' c' d' rest (low_is_half next no_first second) (second_not_lone next no_first))
      ∙ ap (λ p. 92 ∷ 117 ∷ a ∷ b ∷ c ∷ d ∷ 92 ∷ 117 ∷ a' ∷ b' ∷ c' ∷ d' ∷ mended_after p rest) no_first

  read_pair : (a' b' c' d' l : ℕ) (rest : List ℕ) → code_unit a' b' c' d' ≡ Some l → is_low_surrogate l ≡ true →
      content plain (92 ∷ 117 ∷ a ∷ b ∷ c ∷ d ∷ 92 ∷ 117 ∷ a' ∷ b' ∷ c' ∷ d' ∷ rest) ≡ prepend (encode_utf8 (surrogate_pair v l)) (content plain rest)
  read_pair a' b' c' d' l rest e low =
      unit_content a b c d (92 ∷ 117 ∷ a' ∷ b' ∷ c' ∷ d' ∷ rest)
      ∙ ap (option_and_then (after_unit (92 ∷ 117 ∷ a' ∷ b' ∷ c' ∷ d' ∷ rest))) is_unit
      ∙ cond-true _ _ _ high
      ∙ pair_content v a' b' c' d' rest
      ∙ ap (option_and_then (after_pair v rest)) e
      ∙ cond-true _ _ _ low

  read_first : (rest : List ℕ) → content plain (92 ∷ 117 ∷ a ∷ b ∷ c ∷ d ∷ rest) ≡ content (after_high v) rest
  read_first rest = unit_content a b c d rest ∙ ap (option_and_then (after_unit rest)) is_unit ∙ cond-true _ _ _ high

  pair_unit : (a' b' c' d' : ℕ) (rest : List ℕ) (o : Option ℕ) → code_unit a' b' c' d' ≡ o → length rest ≤ n →
      Stays (content (after_high v) (92 ∷ 117 ∷ a' ∷ b' ∷ c' ∷ d' ∷ rest)) (content plain (mended_after false (92 ∷ 117 ∷ a ∷ b ∷ c ∷ d ∷ 92 ∷ 117 ∷ a' ∷ b' ∷ c' ∷ d' ∷ rest)))
  pair_unit a' b' c' d' rest None e short =
      none_stays _ _ (pair_content v a' b' c' d' rest ∙ ap (option_and_then (after_pair v rest)) e)
  pair_unit a' b' c' d' rest (Some l) e short =
      elim (cases_Bool (is_low_surrogate l)) [
        | inl low ↦
            to_stays _ _ _ _ (sym (read_first _) ∙ read_pair a' b' c' d' l rest e low)
            (ap (content plain) (pair_mended a' b' c' d' l rest (unit_parts a' b' c' d' l e) low) ∙ read_pair a' b' c' d' l (mended_after false rest) e low)
            (prepend_stays (encode_utf8 (surrogate_pair v l)) _ _ (stay rest short))
        | inr none ↦ none_stays _ _ (pair_content v a' b' c' d' rest ∙ ap (option_and_then (after_pair v rest)) e ∙ cond-false _ _ _ none)
      ]

  pair_at : (s t : ℕ) (a' b' c' d' : ℕ) (rest : List ℕ) → length rest ≤ n →
      Stays (content (after_high v) (s ∷ t ∷ a' ∷ b' ∷ c' ∷ d' ∷ rest)) (content plain (mended_after false (92 ∷ 117 ∷ a ∷ b ∷ c ∷ d ∷ s ∷ t ∷ a' ∷ b' ∷ c' ∷ d' ∷ rest)))
  pair_at s t a' b' c' d' rest short =
      elim (cases_Bool ((s == 92) && (t == 117))) [
        | inl is ↦
            let p = and_parts (s == 92) (t == 117) is in
            let s_is : s ≡ 92 = number_from s 92 p.0 in
            let t_is : t ≡ 117 = number_from t 117 p.1 in
            rw (s_is, t_is) (pair_unit a' b' c' d' rest (code_unit a' b' c' d') refl short)
        | inr other ↦ none_stays _ _ (no_pair v s t a' b' c' d' rest other)
      ]

  pair_stays : (bytes : List ℕ) → length bytes ≤ n → Stays (content (after_high v) bytes) (content plain (mended_after false (92 ∷ 117 ∷ a ∷ b ∷ c ∷ d ∷ bytes)))
  unfolding content
  pair_stays [] short = none_stays _ _ refl
  pair_stays (b1 ∷ []) short = none_stays _ _ refl
  pair_stays (b1 ∷ b2 ∷ []) short = none_stays _ _ refl
  pair_stays (b1 ∷ b2 ∷ b3 ∷ []) short = none_stays _ _ refl
  pair_stays (b1 ∷ b2 ∷ b3 ∷ b4 ∷ []) short = none_stays _ _ refl
  pair_stays (b1 ∷ b2 ∷ b3 ∷ b4 ∷ b5 ∷ []) short = none_stays _ _ refl
  pair_stays (b1 ∷ b2 ∷ b3 ∷ b4 ∷ b5 ∷ b6 ∷ rest) short = pair_at b1 b2 b3 b4 b5 b6 rest (omega arith)

-- an escape of one code unit
module _ (n v : ℕ) (a b c d : ℕ) (unit : Unit4 a b c d v) (is_unit : code_unit a b c d ≡ Some v) (stay : StringsStay n) (rest : List ℕ) (short : length rest ≤ n) where
  read_unit : (bytes : List ℕ) → content plain (92 ∷ 117 ∷ a ∷ b ∷ c ∷ d ∷ bytes) ≡ after_unit bytes v
  read_unit bytes = unit_content a b c d bytes ∙ ap (option_and_then (after_unit bytes)) is_unit

  lone_stays : is_high_surrogate v ≡ false → is_low_surrogate v ≡ false → Stays (content plain (92 ∷ 117 ∷ a ∷ b ∷ c ∷ d ∷ rest)) (content plain (mended_after false (92 ∷ 117 ∷ a ∷ b ∷ c ∷ d ∷ rest)))
  lone_stays h l =
      let all : List ℕ = 92 ∷ 117 ∷ a ∷ b ∷ c ∷ d ∷ rest in
      let whole : is_half all ≡ false = neither_is_half all (high_escape a b c d v unit rest ∙ h) (low_escape a b c d v unit rest ∙ l) in
      let read : (bytes : List ℕ) → content plain (92 ∷ 117 ∷ a ∷ b ∷ c ∷ d ∷ bytes) ≡ prepend (encode_utf8 v) (content plain bytes) = λ bytes. read_unit bytes ∙ cond-false _ _ _ h ∙ cond-false _ _ _ l in
      to_stays _ _ _ _ (read rest)
      (ap (content plain) (escape_kept false 92 117 (a ∷ b ∷ c ∷ d ∷ rest) refl whole ∙ ap (λ t. 92 ∷ 117 ∷ t) (digits a b c d v unit rest)) ∙ read (mended_after false rest))
      (prepend_stays (encode_utf8 v) _ _ (stay rest short))

  one_stays : Stays (content plain (92 ∷ 117 ∷ a ∷ b ∷ c ∷ d ∷ rest)) (content plain (mended_after false (92 ∷ 117 ∷ a ∷ b ∷ c ∷ d ∷ rest)))
  one_stays =
      elim (cases_Bool (is_high_surrogate v)) [
        | inl h ↦ to_stays _ _ _ _ (read_unit rest ∙ cond-true _ _ _ h) refl (pair_stays n v a b c d unit is_unit h stay rest short)
        | inr h ↦ elim (cases_Bool (is_low_surrogate v)) [
          | inl l ↦ none_stays _ _ (read_unit rest ∙ cond-false _ _ _ h ∙ cond-true _ _ _ l)
          | inr l ↦ lone_stays h l
        ]
      ]

unit_at : (n : ℕ) (a b c d : ℕ) (rest : List ℕ) (o : Option ℕ) → code_unit a b c d ≡ o → StringsStay n → length rest ≤ n →
    Stays (content plain (92 ∷ 117 ∷ a ∷ b ∷ c ∷ d ∷ rest)) (content plain (mended_after false (92 ∷ 117 ∷ a ∷ b ∷ c ∷ d ∷ rest)))
unit_at n a b c d rest None e stay short = none_stays _ _ (unit_content a b c d rest ∙ ap (option_and_then (after_unit rest)) e)
unit_at n a b c d rest (Some v) e stay short = one_stays n v a b c d (unit_parts a b c d v e) e stay rest short

unit_stays : (n : ℕ) (bytes : List ℕ) → StringsStay n → length bytes ≤ n → Stays (content plain (92 ∷ 117 ∷ bytes)) (content plain (mended_after false (92 ∷ 117 ∷ bytes)))
unfolding content
unit_stays n [] stay short = none_stays _ _ refl
unit_stays n (a ∷ []) stay short = none_stays _ _ refl
unit_stays n (a ∷ b ∷ []) stay short = none_stays _ _ refl
unit_stays n (a ∷ b ∷ c ∷ []) stay short = none_stays _ _ refl
unit_stays n (a ∷ b ∷ c ∷ d ∷ rest) stay short = unit_at n a b c d rest (code_unit a b c d) refl stay (omega arith)

backslash_stays : (n u : ℕ) (bytes : List ℕ) → StringsStay n → length bytes ≤ n → Stays (content plain (92 ∷ u ∷ bytes)) (content plain (mended_after false (92 ∷ u ∷ bytes)))
backslash_stays n u bytes stay short =
    elim (cases_Bool (u == 117)) [
      | inl e ↦ let u_is : u ≡ 117 = number_from u 117 e in rw u_is (unit_stays n bytes stay short)
      | inr e ↦
          to_stays _ _ _ _ (backslash_content u bytes e)
          (ap (content plain) (escape_kept false 92 u bytes refl (no_half_after u bytes e)) ∙ backslash_content u (mended_after false bytes) e)
          (then_stays _ _ (short_escape u) (λ c _. prepend_stays (c ∷ []) _ _ (stay bytes short)))
    ]

byte_stays : (n x : ℕ) (bytes : List ℕ) → StringsStay n → length bytes ≤ n → (x == 34) ≡ false → (x == 92) ≡ false → Stays (content plain (x ∷ bytes)) (content plain (mended_after false (x ∷ bytes)))
byte_stays n x bytes stay short q e =
    to_stays _ _ _ _ (byte_content x bytes q e)
    (ap (content plain) (byte_kept false x bytes e) ∙ byte_content x (mended_after false bytes) q e)
    (cond_stays (nat_lt x 32) None _ None _ (λ _. same_stays None None refl) (λ _. prepend_stays (x ∷ []) _ _ (stay bytes short)))

quote_stays : (x : ℕ) (bytes : List ℕ) → (x == 34) ≡ true → Stays (content plain (x ∷ bytes)) (content plain (mended_after false (x ∷ bytes)))
quote_stays x bytes q =
    to_stays _ _ _ _ (quote_content x bytes q)
    (ap (content plain) (byte_kept false x bytes (grind (arith, nat_tests))) ∙ quote_content x (mended_after false bytes) q)
    (same_stays (Some []) (Some []) refl)

pub strings_stay : (n : ℕ) → StringsStay n
unfolding content
strings_stay n [] short = none_stays _ _ refl
strings_stay zero (x ∷ bytes) short = absurd (omega arith)
strings_stay (suc n) (x ∷ []) short =
    elim (cases_Bool (x == 34)) [
      | inl q ↦ quote_stays x [] q
      | inr q ↦ elim (cases_Bool (x == 92)) [
        | inl e ↦ let x_is : x ≡ 92 = number_from x 92 e in rw x_is (none_stays _ _ refl)
        | inr e ↦ byte_stays n x [] (strings_stay n) (omega arith) q e
      ]
    ]
strings_stay (suc n) (x ∷ u ∷ bytes) short =
    elim (cases_Bool (x == 34)) [
      | inl q ↦ quote_stays x (u ∷ bytes) q
      | inr q ↦ elim (cases_Bool (x == 92)) [
        | inl e ↦ let x_is : x ≡ 92 = number_from x 92 e in rw x_is (backslash_stays n u bytes (strings_stay n) (omega arith))
        | inr e ↦ byte_stays n x (u ∷ bytes) (strings_stay n) (omega arith) q e
      ]
    ]
