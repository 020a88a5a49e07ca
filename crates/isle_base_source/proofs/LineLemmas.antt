-- The line ends of a text, and the lines that they part.
use Rattle.std.proofs.Common.{◌≡◌, ℕ, zero, suc, ◌+◌, ◌-◌, ◌<◌, ◌≤◌, ◌==◌, nat_le, Bool, true, false, cond, eqb, List, [], ◌∷◌, ◌++◌, Some, length, get_or, take, count_by, slice_get, refl, sym, ap, ◌∙◌, ◌⊎◌, inl, inr, ⊎_elim, arith, add-zero, zero-add}
use Rattle.std.proofs.lemmas.Bool.{cases_lt, eqb-true}
use Rattle.std.proofs.lemmas.Bool.Decides.{nat_tests}
use Rattle.std.proofs.lemmas.Grind.{common_steps}
use Rattle.std.proofs.lemmas.List.{get_or_default, get_or_past, take_more}
use Rattle.std.proofs.lemmas.List.Sums.{count_by-le-length, sum_by-cons}
use Rattle.std.proofs.lemmas.Str.{IsCharBoundary-after_ascii, IsCharBoundary-end, IsCharBoundary-start}
use Rattle.std.specs.List.Sorted.{IsNonDecreasing}
use Rattle.std.specs.Str.{IsCharBoundary, IsUtf8}
use Rattle.isle_base_source.specs.Lines.{line, line_begin, line_end, line_ends, line_ends_from}

pub line-cons : (b : ℕ) (text : List ℕ) (n : ℕ) → line (b ∷ text) (suc n) ≡ cond (eqb b 10) 1 0 + line text n
line-cons b text n = sum_by-cons (λ x. cond (x == 10) 1 0) b (take n text)

pub line-nil : (n : ℕ) → line [] n ≡ 0
line-nil zero = refl
line-nil (suc n) = refl

pub line-zero : (text : List ℕ) → line text 0 ≡ 0
line-zero [] = refl
line-zero (b ∷ text) = refl

pub line_ends_from-append : (at : ℕ) (xs ys : List ℕ) → line_ends_from at (xs ++ ys) ≡ line_ends_from at xs ++ line_ends_from (at + length xs) ys
line_ends_from-append at [] ys = rw add-zero refl
line_ends_from-append at (x ∷ xs) ys =
    let shift : at + suc (length xs) ≡ (at + 1) + length xs = omega arith in
    let rest = line_ends_from-append (at + 1) xs ys in
    rw shift (rw rest (elim (eqb x 10) as (λ v. cond v ((at + 1) ∷ (line_ends_from (at + 1) xs ++ line_ends_from ((at + 1) + length xs) ys)) (line_ends_from (at + 1) xs ++ line_ends_from ((at + 1) + length xs) ys) ≡ cond v ((at + 1) ∷ line_ends_from (at + 1) xs) (line_ends_from (at + 1) xs) ++ line_ends_from ((at + 1) + length xs) ys) [ true ↦ refl | false ↦ refl ]))

-- one more byte of the text
pub line_ends_more : (text : List ℕ) (i : ℕ) → i < length text → line_ends (take (i + 1) text) ≡ line_ends (take i text) ++ cond (eqb (get_or text i 0) 10) ((i + 1) ∷ []) []
line_ends_more text i within =
    let taken : length (take i text) ≡ i = grind (arith, common_steps) in
    ap line_ends (take_more text i 0 within) ∙ line_ends_from-append 0 (take i text) (get_or text i 0 ∷ [])
    ∙ (rw (zero-add, taken) refl)

-- each line end is above the offset of the text's first byte
line_ends_from-above : (at : ℕ) (text : List ℕ) (k d : ℕ) → k < length (line_ends_from at text) → at < get_or (line_ends_from at text) k d
line_ends_from-above at [] k d within = absurd (omega arith)
line_ends_from-above at (b ∷ text) k d within = above_step at b (line_ends_from (at + 1) text) k d (λ j. line_ends_from-above (at + 1) text j d) (eqb b 10) within where
  above_step : (at b : ℕ) (rest : List ℕ) (k d : ℕ) → ((j : ℕ) → j < length rest → at + 1 < get_or rest j d) → (c : Bool) → k < length (cond c ((at + 1) ∷ rest) rest) → at < get_or (cond c ((at + 1) ∷ rest) rest) k d
  above_step at b rest zero d above true within = omega arith
  above_step at b rest (suc k) d above true within = omega (arith, above k (omega arith))
  above_step at b rest k d above false within = omega (arith, above k within)

pub line_ends_from-rise : (at : ℕ) (text : List ℕ) (i j d : ℕ) → i ≤ j → j < length (line_ends_from at text) → get_or (line_ends_from at text) i d ≤ get_or (line_ends_from at text) j d
line_ends_from-rise at [] i j d low within = absurd (omega arith)
line_ends_from-rise at (b ∷ text) i j d low within = rise_step at (line_ends_from (at + 1) text) i j d (λ m. line_ends_from-above (at + 1) text m d) (λ m n. line_ends_from-rise (at + 1) text m n d) (eqb b 10) low within where
  rise_step : (at : ℕ) (rest : List ℕ) (i j d : ℕ) → ((m : ℕ) → m < length rest → at + 1 < get_or rest m d) → ((m n : ℕ) → m ≤ n → n < length rest → get_or rest m d ≤ get_or rest n d) → (c : Bool) → i ≤ j → j < length (cond c ((at + 1) ∷ rest) rest) → get_or (cond c ((at + 1) ∷ rest) rest) i d ≤ get_or (cond c ((at + 1) ∷ rest) rest) j d
  rise_step at rest zero zero d above rise true low within = omega arith
  rise_step at rest zero (suc j) d above rise true low within = omega (arith, above j (omega arith))
  rise_step at rest (suc i) zero d above rise true low within = absurd (omega arith)
  rise_step at rest (suc i) (suc j) d above rise true low within = rise i j (omega arith) (omega arith)
  rise_step at rest i j d above rise false low within = rise i j low within

pub line_ends-rise : (text : List ℕ) → IsNonDecreasing (line_ends text)
line_ends-rise text i j d low within = line_ends_from-rise 0 text i j d low within

-- the line end after the LF at an offset has the number of that offset's line
pub line_ends_from-each : (at : ℕ) (text : List ℕ) (n : ℕ) → slice_get text n ≡ Some 10 → slice_get (line_ends_from at text) (line text n) ≡ Some (at + n + 1)
line_ends_from-each at [] n is_lf = cc
line_ends_from-each at (b ∷ text) zero is_lf =
    let found : b ≡ 10 = cc in
    rw (found, add-zero) refl
line_ends_from-each at (b ∷ text) (suc n) is_lf = each_step at b n text (line_ends_from-each (at + 1) text n is_lf) where
  each_step : (at b n : ℕ) (text : List ℕ) → slice_get (line_ends_from (at + 1) text) (line text n) ≡ Some (at + 1 + n + 1) → slice_get (line_ends_from at (b ∷ text)) (line (b ∷ text) (suc n)) ≡ Some (at + suc n + 1)
  each_step at b n text rest =
      let shift : at + suc n + 1 ≡ at + 1 + n + 1 = omega arith in
      rw (line-cons b text n, shift) (by_byte (eqb b 10)) where
        by_byte : (c : Bool) → slice_get (cond c ((at + 1) ∷ line_ends_from (at + 1) text) (line_ends_from (at + 1) text)) (cond c 1 0 + line text n) ≡ Some (at + 1 + n + 1)
        by_byte true = let number : 1 + line text n ≡ suc (line text n) = omega arith in rw number rest
        by_byte false = rw zero-add rest

pub line_ends-each : (text : List ℕ) (n : ℕ) → slice_get text n ≡ Some 10 → slice_get (line_ends text) (line text n) ≡ Some (n + 1)
line_ends-each text n is_lf = rw zero-add at (line_ends_from-each 0 text n is_lf)

-- there are as many line ends as LFs
pub length-line_ends_from : (at : ℕ) (text : List ℕ) → length (line_ends_from at text) ≡ line text (length text)
length-line_ends_from at [] = refl
length-line_ends_from at (b ∷ text) = rw line-cons (length_step (eqb b 10) (length-line_ends_from (at + 1) text)) where
  length_step : (c : Bool) → length (line_ends_from (at + 1) text) ≡ line text (length text) → length (cond c ((at + 1) ∷ line_ends_from (at + 1) text) (line_ends_from (at + 1) text)) ≡ cond c 1 0 + line text (length text)
  length_step true rest = omega arith
  length_step false rest = omega arith

-- how many line ends are at most an offset
ends_upto : ℕ → List ℕ → ℕ
ends_upto top ends = count_by (λ end. nat_le end top) ends

ends_upto-cons : (top end : ℕ) (ends : List ℕ) → ends_upto top (end ∷ ends) ≡ cond (nat_le end top) 1 0 + ends_upto top ends
unfolding ends_upto
ends_upto-cons top end ends = sum_by-cons (λ x. cond (nat_le x top) 1 0) end ends

ends_upto-none : (at : ℕ) (text : List ℕ) (top : ℕ) → top ≤ at → ends_upto top (line_ends_from at text) ≡ 0
unfolding ends_upto
ends_upto-none at [] top low = refl
ends_upto-none at (b ∷ text) top low = by_byte (eqb b 10) (ends_upto-none (at + 1) text top (omega arith)) where
  by_byte : (c : Bool) → ends_upto top (line_ends_from (at + 1) text) ≡ 0 → ends_upto top (cond c ((at + 1) ∷ line_ends_from (at + 1) text) (line_ends_from (at + 1) text)) ≡ 0
  by_byte true rest = ends_upto-cons top (at + 1) (line_ends_from (at + 1) text) ∙ grind (arith, nat_tests)
  by_byte false rest = rest

ends_upto-line_ends_from : (at : ℕ) (text : List ℕ) (n : ℕ) → ends_upto (at + n) (line_ends_from at text) ≡ line text n
unfolding ends_upto
ends_upto-line_ends_from at [] n = sym (line-nil n)
ends_upto-line_ends_from at (b ∷ text) zero = ends_upto-none at (b ∷ text) (at + 0) (omega arith) ∙ sym (line-zero (b ∷ text))
ends_upto-line_ends_from at (b ∷ text) (suc n) =
    let rest : ends_upto (at + suc n) (line_ends_from (at + 1) text) ≡ line text n = (let shift : at + suc n ≡ at + 1 + n = omega arith in rw shift (ends_upto-line_ends_from (at + 1) text n)) in
    by_byte (eqb b 10) rest ∙ sym (line-cons b text n) where
      by_byte : (c : Bool) → ends_upto (at + suc n) (line_ends_from (at + 1) text) ≡ line text n → ends_upto (at + suc n) (cond c ((at + 1) ∷ line_ends_from (at + 1) text) (line_ends_from (at + 1) text)) ≡ cond c 1 0 + line text n
      by_byte true rest = ends_upto-cons (at + suc n) (at + 1) (line_ends_from (at + 1) text) ∙ grind (arith, nat_tests)
      by_byte false rest = rest ∙ sym (zero-add (line text n))

pub count-line_ends : (text : List ℕ) (n : ℕ) → count_by (λ end. nat_le end n) (line_ends text) ≡ line text n
unfolding ends_upto
count-line_ends text n = rw zero-add at (ends_upto-line_ends_from 0 text n)

-- a test that passes just below a place passes that often
pub count_by-upto : (p : ℕ → Bool) (xs : List ℕ) (i : ℕ) → i ≤ length xs → ((k d : ℕ) → 0 ≤ k → k < i → p (get_or xs k d) ≡ true) → ((k d : ℕ) → i ≤ k → k < length xs → p (get_or xs k d) ≡ false) → count_by p xs ≡ i
count_by-upto p [] i within passes fails = omega arith
count_by-upto p (x ∷ xs) zero within passes fails =
    let first : p x ≡ false = fails 0 x (omega arith) (omega arith) in
    let rest = count_by-upto p xs zero (omega arith) (λ k d low high. absurd (omega arith)) (λ k d low high. fails (suc k) d (omega arith) (omega arith)) in
    sum_by-cons (λ x. cond (p x) 1 0) x xs ∙ rw first (rw zero-add rest)
count_by-upto p (x ∷ xs) (suc i) within passes fails =
    let first : p x ≡ true = passes 0 x (omega arith) (omega arith) in
    let rest = count_by-upto p xs i (omega arith) (λ k d low high. passes (suc k) d (omega arith) (omega arith)) (λ k d low high. fails (suc k) d (omega arith) (omega arith)) in
    sum_by-cons (λ x. cond (p x) 1 0) x xs ∙ rw first (rw rest (omega arith))

-- each line end stands after a LF
abbrev after_lf : List ℕ → ℕ → ℕ → Type 0
after_lf text at end = (n : ℕ) × (n < length text) × (get_or text n 0 ≡ 10) × (end ≡ at + n + 1)

after_lf-cons : (b : ℕ) (text : List ℕ) (at end : ℕ) → after_lf text (at + 1) end → after_lf (b ∷ text) at end
after_lf-cons b text at end found = (suc found.0, omega arith, found.2, omega (arith, found.3))

line_ends_from-after_lf : (at : ℕ) (text : List ℕ) (k d : ℕ) → k < length (line_ends_from at text) → after_lf text at (get_or (line_ends_from at text) k d)
line_ends_from-after_lf at [] k d within = absurd (omega arith)
line_ends_from-after_lf at (b ∷ text) k d within = by_byte (eqb b 10) (λ e. eqb-true b 10 e) k (λ j. line_ends_from-after_lf (at + 1) text j d) within where
  by_byte : (c : Bool) → (c ≡ true → b ≡ 10) → (k : ℕ) → ((j : ℕ) → j < length (line_ends_from (at + 1) text) → after_lf text (at + 1) (get_or (line_ends_from (at + 1) text) j d)) → k < length (cond c ((at + 1) ∷ line_ends_from (at + 1) text) (line_ends_from (at + 1) text)) → after_lf (b ∷ text) at (get_or (cond c ((at + 1) ∷ line_ends_from (at + 1) text) (line_ends_from (at + 1) text)) k d)
  by_byte true is_lf zero rest within = (0, omega arith, is_lf refl, omega arith)
  by_byte true is_lf (suc k) rest within = after_lf-cons b text at (get_or (line_ends_from (at + 1) text) k d) (rest k (omega arith))
  by_byte false is_lf k rest within = after_lf-cons b text at (get_or (line_ends_from (at + 1) text) k d) (rest k within)

-- a line that begins below an offset's line begins at the offset at most
line_ends_from-below : (at : ℕ) (text : List ℕ) (p k d : ℕ) → k < line text p → get_or (line_ends_from at text) k d ≤ at + p
line_ends_from-below at [] p k d within = absurd (omega (arith, line-nil p))
line_ends_from-below at (b ∷ text) zero k d within = absurd (omega (arith, line-zero (b ∷ text)))
line_ends_from-below at (b ∷ text) (suc p) k d within = by_byte (eqb b 10) k (λ j. line_ends_from-below (at + 1) text p j d) (rw line-cons at within) where
  by_byte : (c : Bool) (k : ℕ) → ((j : ℕ) → j < line text p → get_or (line_ends_from (at + 1) text) j d ≤ at + 1 + p) → k < cond c 1 0 + line text p → get_or (cond c ((at + 1) ∷ line_ends_from (at + 1) text) (line_ends_from (at + 1) text)) k d ≤ at + suc p
  by_byte true zero rest within = omega arith
  by_byte true (suc k) rest within = omega (arith, rest k (omega arith))
  by_byte false k rest within = omega (arith, rest k (omega arith))

-- any line but the first begins after a LF
line_begin-suc : (text : List ℕ) (k : ℕ) → line_begin text (suc k) ≡ get_or (line_ends text) k 0
line_begin-suc text k =
    let other : eqb (suc k) 0 ≡ false = grind (arith, nat_tests) in
    let before : suc k - 1 ≡ k = omega arith in
    rw (other, before) refl

-- an offset stands in its line, or past it
pub line_begin-le : (text : List ℕ) (offset : ℕ) → line_begin text (line text offset) ≤ offset
line_begin-le text offset = by_number (line text offset) (λ k. line_ends_from-below 0 text offset k 0) where
  by_number : (number : ℕ) → ((k : ℕ) → k < number → get_or (line_ends text) k 0 ≤ 0 + offset) → line_begin text number ≤ offset
  by_number zero below = omega arith
  by_number (suc k) below = rw line_begin-suc (omega (arith, below k (omega arith)))

-- a line's end is a place after a LF, or the end of the text
line_end-cases : (text : List ℕ) (number : ℕ) → (number < length (line_ends text) × after_lf text 0 (line_end text number)) ⊎ (line_end text number ≡ length text)
line_end-cases text number = ⊎_elim (λ within. inl (within, line_ends_from-after_lf 0 text number (length text) within)) (λ past. inr (get_or_past (line_ends text) number (length text) past)) (cases_lt number (length (line_ends text)))

pub line_end-le : (text : List ℕ) (number : ℕ) → line_end text number ≤ length text
line_end-le text number = ⊎_elim (λ found. omega (arith, found.1.1, found.1.3)) (λ at_end. omega (arith, at_end)) (line_end-cases text number)

pub line_begin-le-end : (text : List ℕ) (number : ℕ) → number ≤ length (line_ends text) → line_begin text number ≤ line_end text number
line_begin-le-end text zero within = omega arith
line_begin-le-end text (suc k) within =
    let begin : (n : ℕ) × (n < length text) × (get_or text n 0 ≡ 10) × (get_or (line_ends text) k 0 ≡ 0 + n + 1) = line_ends_from-after_lf 0 text k 0 (omega arith) in
    rw line_begin-suc (⊎_elim (λ found. by_rise found.0) (λ at_end. omega (arith, at_end, begin.1, begin.3)) (line_end-cases text (suc k))) where
      by_rise : suc k < length (line_ends text) → get_or (line_ends text) k 0 ≤ line_end text (suc k)
      by_rise inner =
          let rise = line_ends-rise text k (suc k) (length text) (omega arith) inner in
          let same = get_or_default (line_ends text) k 0 (length text) (omega arith) in
          omega arith

-- a line begins and ends between two characters
pub line_begin-boundary : (text : List ℕ) → IsUtf8 text → (number : ℕ) → number ≤ length (line_ends text) → IsCharBoundary text (line_begin text number)
line_begin-boundary text utf8 zero within = IsCharBoundary-start text utf8
line_begin-boundary text utf8 (suc k) within =
    let begin : (n : ℕ) × (n < length text) × (get_or text n 0 ≡ 10) × (get_or (line_ends text) k 0 ≡ 0 + n + 1) = line_ends_from-after_lf 0 text k 0 (omega arith) in
    let place : get_or (line_ends text) k 0 ≡ begin.0 + 1 = omega (arith, begin.3) in
    rw (line_begin-suc, place) (IsCharBoundary-after_ascii text begin.0 utf8 begin.1 (omega (arith, begin.2)))

pub line_end-boundary : (text : List ℕ) → IsUtf8 text → (number : ℕ) → IsCharBoundary text (line_end text number)
line_end-boundary text utf8 number = ⊎_elim (λ found. after found.1) (λ at_end. rw at_end (IsCharBoundary-end text)) (line_end-cases text number) where
  after : after_lf text 0 (line_end text number) → IsCharBoundary text (line_end text number)
  after found =
      let place : line_end text number ≡ found.0 + 1 = omega (arith, found.3) in
      rw place (IsCharBoundary-after_ascii text found.0 utf8 found.1 (omega (arith, found.2)))

-- the lines of a text are one more than its line ends
pub line-le : (text : List ℕ) (offset : ℕ) → line text offset ≤ length (line_ends text)
line-le text offset = rw (← count-line_ends text offset) (count_by-le-length (λ end. nat_le end offset) (line_ends text))
