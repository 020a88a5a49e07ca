-- The lines of a text, by where they begin, and the last lines of lists.
use Rattle.std.proofs.Common.{◌≡◌, ◌≢◌, ℕ, zero, suc, ◌+◌, ◌-◌, ◌<◌, ◌≤◌, ◌==◌, nat_le, Bool, true, false, inl, inr, List, [], ◌∷◌, length, get_or, drop, drop-cons, add-one, max, cond, refl, sym, ap, subst, ◌∙◌, arith}
use Rattle.std.proofs.lemmas.Bool.{cases_Bool}
use Rattle.std.proofs.lemmas.Bool.Decides.{nat_tests}
use Rattle.std.proofs.lemmas.List.Sums.{sum_by-cons}
use Rattle.std.specs.List.Sorted.{IsNonDecreasing}
use Rattle.isle_lsp_text.specs.Positions.{ends_line, offset_from, position_from, unit_count}
use Rattle.isle_lsp_text.specs.declared.lists.ListSpan.{ListSpan}
use Rattle.isle_lsp_text.proofs.Places.{o_line, o_nil, o_skip, p_zero, p_end, p_more}
use Rattle.isle_lsp_ranges.specs.Foldings.{breaks, breaks_from, comments, folds_from, foldings, last_line, line_at, line_in}
use Rattle.isle_lsp_text.specs.declared.positions.PositionEncoding.{PositionEncoding}
use Rattle.isle_lsp_text.specs.declared.positions.PositionEncoding.TheVariants.{Utf16}

-- ---- where lines begin

-- a break and those behind it, or only those
abbrev put : Bool → ℕ → List ℕ → List ℕ
put true n ns = n ∷ ns
put false n ns = ns

pub breaks_here : (text : List ℕ) (i : ℕ) → i < length text → breaks_from i (drop i text) ≡ cond (ends_line (get_or text i 0) (drop (i + 1) text)) ((i + 1) ∷ breaks_from (i + 1) (drop (i + 1) text)) (breaks_from (i + 1) (drop (i + 1) text))
breaks_here text i h =
    let here : drop i text ≡ get_or text i 0 ∷ drop (i + 1) text = rw (add-one, drop-cons text i 0 h) refl in
    ap (breaks_from i) here

above : (at : ℕ) (text : List ℕ) (k d : ℕ) → k < length (breaks_from at text) → at < get_or (breaks_from at text) k d
above at [] k d h = absurd (omega arith)
above at (b ∷ text) k d h = by_byte (ends_line b text) k (λ j. above (at + 1) text j d) h where
  by_byte : (c : Bool) (k : ℕ) → ((j : ℕ) → j < length (breaks_from (at + 1) text) → at + 1 < get_or (breaks_from (at + 1) text) j d) → k < length (cond c ((at + 1) ∷ breaks_from (at + 1) text) (breaks_from (at + 1) text)) → at < get_or (cond c ((at + 1) ∷ breaks_from (at + 1) text) (breaks_from (at + 1) text)) k d
  by_byte true zero rest h = omega arith
  by_byte true (suc k) rest h = omega (arith, rest k (omega arith))
  by_byte false k rest h = omega (arith, rest k h)

pub within : (at : ℕ) (text : List ℕ) (k d : ℕ) → k < length (breaks_from at text) → get_or (breaks_from at text) k d ≤ at + length text
within at [] k d h = absurd (omega arith)
within at (b ∷ text) k d h = by_byte (ends_line b text) k (λ j. within (at + 1) text j d) h where
  by_byte : (c : Bool) (k : ℕ) → ((j : ℕ) → j < length (breaks_from (at + 1) text) → get_or (breaks_from (at + 1) text) j d ≤ at + 1 + length text) → k < length (cond c ((at + 1) ∷ breaks_from (at + 1) text) (breaks_from (at + 1) text)) → get_or (cond c ((at + 1) ∷ breaks_from (at + 1) text) (breaks_from (at + 1) text)) k d ≤ at + suc (length text)
  by_byte true zero rest h = omega arith
  by_byte true (suc k) rest h = omega (arith, rest k (omega arith))
  by_byte false k rest h = omega (arith, rest k h)

rise : (at : ℕ) (text : List ℕ) (i j d : ℕ) → i ≤ j → j < length (breaks_from at text) → get_or (breaks_from at text) i d ≤ get_or (breaks_from at text) j d
rise at [] i j d l h = absurd (omega arith)
rise at (b ∷ text) i j d l h = by_byte (ends_line b text) i j (λ m. above (at + 1) text m d) (λ m n. rise (at + 1) text m n d) l h where
  by_byte : (c : Bool) (i j : ℕ) → ((m : ℕ) → m < length (breaks_from (at + 1) text) → at + 1 < get_or (breaks_from (at + 1) text) m d) → ((m n : ℕ) → m ≤ n → n < length (breaks_from (at + 1) text) → get_or (breaks_from (at + 1) text) m d ≤ get_or (breaks_from (at + 1) text) n d) → i ≤ j → j < length (cond c ((at + 1) ∷ breaks_from (at + 1) text) (breaks_from (at + 1) text)) → get_or (cond c ((at + 1) ∷ breaks_from (at + 1) text) (breaks_from (at + 1) text)) i d ≤ get_or (cond c ((at + 1) ∷ breaks_from (at + 1) text) (breaks_from (at + 1) text)) j d
  by_byte true zero zero up rest l h = omega arith
  by_byte true zero (suc j) up rest l h = omega (arith, up j (omega arith))
  by_byte true (suc i) zero up rest l h = absurd (omega arith)
  by_byte true (suc i) (suc j) up rest l h = rest i j (omega arith) (omega arith)
  by_byte false i j up rest l h = rest i j l h

pub within_text : (text starts : List ℕ) (k d : ℕ) → starts ≡ breaks text → k < length starts → get_or starts k d ≤ length text
within_text text starts k d is h =
    let h' : k < length (breaks text) = subst (λ x. k < length x) is h in
    let low : get_or (breaks text) k d ≤ length text = omega (arith, within 0 text k d h') in
    subst (λ x. get_or x k d ≤ length text) (sym is) low

pub breaks_rise : (text : List ℕ) → IsNonDecreasing (breaks text)
breaks_rise text i j d l h = rise 0 text i j d l h

-- ---- the line of an offset

in_cons : (start : ℕ) (starts : List ℕ) (offset : ℕ) → line_in (start ∷ starts) offset ≡ cond (nat_le start offset) 1 0 + line_in starts offset
in_cons start starts offset = sum_by-cons (λ x. cond (nat_le x offset) 1 0) start starts

in_none : (at : ℕ) (text : List ℕ) (offset : ℕ) → offset ≤ at → line_in (breaks_from at text) offset ≡ 0
in_none at [] offset l = refl
in_none at (b ∷ text) offset l = by_byte (ends_line b text) (in_none (at + 1) text offset (omega arith)) where
  by_byte : (c : Bool) → line_in (breaks_from (at + 1) text) offset ≡ 0 → line_in (cond c ((at + 1) ∷ breaks_from (at + 1) text) (breaks_from (at + 1) text)) offset ≡ 0
  by_byte true rest = in_cons (at + 1) (breaks_from (at + 1) text) offset ∙ grind (arith, nat_tests)
  by_byte false rest = rest

at_nil : (line unit n : ℕ) → (position_from Utf16 line unit n []).line ≡ line
unfolding position_from
at_nil line unit zero = refl
at_nil line unit (suc n) = refl

line_from : (line unit at n : ℕ) (text : List ℕ) → (position_from Utf16 line unit n text).line ≡ line + line_in (breaks_from at text) (at + n)
line_from line unit at n [] = at_nil line unit n ∙ (let z : line + 0 ≡ line = omega arith in sym z)
line_from line unit at zero (b ∷ text) =
    ap (λ p. p.line) (p_zero Utf16 line unit (b ∷ text)) ∙ (let z = in_none at (b ∷ text) (at + 0) (omega arith) in omega (arith, z))
line_from line unit at (suc n) (b ∷ text) =
    let shift : at + suc n ≡ at + 1 + n = omega arith in
    elim (cases_Bool (ends_line b text)) [
      | inl e ↦
          let rest = line_from (line + 1) 0 (at + 1) n text in
          let one : nat_le (at + 1) (at + 1 + n) ≡ true = grind (arith, nat_tests) in
          let more : line_in ((at + 1) ∷ breaks_from (at + 1) text) (at + 1 + n) ≡ 1 + line_in (breaks_from (at + 1) text) (at + 1 + n) = in_cons (at + 1) (breaks_from (at + 1) text) (at + 1 + n) ∙ ap (λ v. cond v 1 0 + line_in (breaks_from (at + 1) text) (at + 1 + n)) one in
          ap (λ p. p.line) (p_end Utf16 line unit n b text e) ∙ rest
          ∙ rw (e, shift) (omega (arith, more))
      | inr e ↦
          let rest = line_from line (unit + unit_count Utf16 b) (at + 1) n text in
          ap (λ p. p.line) (p_more Utf16 line unit n b text e) ∙ rest ∙ rw (e, shift) refl
    ]

pub line_at_is : (text : List ℕ) (offset : ℕ) → line_at text offset ≡ line_in (breaks text) offset
line_at_is text offset =
    let z : 0 + offset ≡ offset = omega arith in
    line_from 0 0 0 offset text ∙ (let w : 0 + line_in (breaks text) (0 + offset) ≡ line_in (breaks text) (0 + offset) = omega arith in w ∙ ap (line_in (breaks text)) z)

-- ---- the last lines of lists

pub last_line_low : (f : ℕ → ℕ) (line : ℕ) (ls : List ListSpan) → line ≤ last_line f line ls
last_line_low f line [] = omega arith
last_line_low f line (l ∷ ls) = by_test (f l.from == line) (last_line_low f line ls) where
  by_test : (v : Bool) → line ≤ last_line f line ls → line ≤ cond v (max (f (l.to - 1)) (last_line f line ls)) (last_line f line ls)
  by_test true h = omega arith
  by_test false h = h

pub last_line_same : (f g : ℕ → ℕ) (line : ℕ) (ls : List ListSpan) → ((n : ℕ) → f n ≡ g n) → last_line f line ls ≡ last_line g line ls
last_line_same f g line [] h = refl
last_line_same f g line (l ∷ ls) h =
    let rest = last_line_same f g line ls h in
    rw (h l.from, h (l.to - 1), rest) refl

pub folds_same : (f g : ℕ → ℕ) (line : ℕ) (after : Bool) (cs : List Bool) → ((n : ℕ) → f n ≡ g n) → folds_from f line after cs ≡ folds_from g line after cs
folds_same f g line after [] h = refl
folds_same f g line after (c ∷ cs) h =
    let rest = folds_same f g (line + 1) c cs h in
    rw (h line, rest) refl

-- before the first list
pub last_line_first : (f : ℕ → ℕ) (ls : List ListSpan) (k e : ℕ) → e ≡ k → (k ≤ e) × (max e (last_line f k ls) ≡ last_line f k ls)
last_line_first f ls k e is = let low = last_line_low f k ls in (omega arith, omega (arith, low))

-- the folds of a text, where the lines of offsets are those of its positions
pub folded : (text starts : List ℕ) (lists : List ListSpan) (found : List Bool) → starts ≡ breaks text → found ≡ comments text
    → folds_from (λ line. last_line (line_in starts) line lists) 0 false found ≡ foldings text lists
folded text starts lists found is are =
    folds_same (λ line. last_line (line_in starts) line lists) (λ line. last_line (line_at text) line lists) 0 false found
    (λ line. last_line_same (line_in starts) (line_at text) line lists (λ n. ap (λ s. line_in s n) is ∙ sym (line_at_is text n)))
    ∙ ap (folds_from (λ line. last_line (line_at text) line lists) 0 false) are

-- one list more, where the last line of the lists so far that begin on this one is `old`
pub last_line_next : (f : ℕ → ℕ) (l : ListSpan) (ls : List ListSpan) (k old new all : ℕ) → (k ≡ f l.from → new ≡ max (f (l.to - 1)) old) → (k ≢ f l.from → new ≡ old)
    → k ≤ old → max old (last_line f k (l ∷ ls)) ≡ all → (k ≤ new) × (max new (last_line f k ls) ≡ all)
last_line_next f l ls k old new all same other low inv =
    elim (cases_Bool (f l.from == k)) [
      | inl e ↦
          let here : k ≡ f l.from = grind (arith, nat_tests) in
          let n = same here in
          let inv' : max old (max (f (l.to - 1)) (last_line f k ls)) ≡ all = rw e at inv in
          (omega (arith, n), omega (arith, n, inv'))
      | inr e ↦
          let there : k ≢ f l.from = λ h. grind (arith, nat_tests) in
          let n = other there in
          let inv' : max old (last_line f k ls) ≡ all = rw e at inv in
          (omega (arith, n), omega (arith, n, inv'))
    ]

-- a line past the last one begins at the end of the text
pub past_lines : (enc : PositionEncoding) (line unit : ℕ) (text : List ℕ) → length text ≤ line → offset_from enc line unit text ≡ length text
past_lines enc line unit [] h = o_nil enc line unit
past_lines enc zero unit (b ∷ text) h = absurd (omega arith)
past_lines enc (suc line) unit (b ∷ text) h =
    elim (cases_Bool (ends_line b text)) [
      | inl e ↦ o_line enc line unit b text e ∙ ap suc (past_lines enc line unit text (omega arith))
      | inr e ↦ o_skip enc line unit b text e ∙ ap suc (past_lines enc (suc line) unit text (omega arith))
    ]
