-- Mending, one step after another.
use Rattle.std.proofs.Common.{◌≡◌, ℕ, ◌<◌, ◌≤◌, List, [], ◌∷◌, ◌++◌, length, take, drop, Bool, true, false, ◌||◌, ◌==◌, inl, inr, arith, refl, ap, ◌∙◌, if◌then◌else◌, zero, suc, get_or, sym, length-append}
use Rattle.std.proofs.lemmas.Bool.{cases_Bool}
use Rattle.isle_lsp_frames.specs.Mending.{front_len, is_half, is_high, is_lone, is_low, mended_after, mended_front, replacement}

or_false : (x y : Bool) → (x || y) ≡ false → (x ≡ false) × (y ≡ false)
or_false false false h = (refl, refl)
or_false false true h = (refl, h)
or_false true y h = cc

six : (bytes : List ℕ) → is_half bytes ≡ true → front_len bytes ≡ 6
unfolding front_len
six bytes h = rw h refl

-- without a surrogate at the front nothing is replaced
not_lone : (paired : Bool) (bytes : List ℕ) → is_half bytes ≡ false → is_lone paired bytes ≡ false
unfolding is_lone
not_lone paired bytes h = let p = or_false (is_high bytes) (is_low bytes) h in rw (p.0, p.1) refl

module _ (paired : Bool) (b u x y z w : ℕ) (rest : List ℕ) where
  abbrev pub front : List ℕ
  front = b ∷ u ∷ x ∷ y ∷ z ∷ w ∷ rest

  pub half_is : is_half front ≡ true → mended_after paired front ≡ (if is_lone paired front then replacement else take 6 front) ++ mended_after (is_high front) rest
  unfolding mended_after
  half_is h = rw h refl

  pub escape_is : is_half front ≡ false → (b == 92) ≡ true → mended_after paired front ≡ b ∷ u ∷ mended_after false (x ∷ y ∷ z ∷ w ∷ rest)
  unfolding mended_after
  escape_is h e = rw (h, e) refl

  pub byte_is : is_half front ≡ false → (b == 92) ≡ false → mended_after paired front ≡ b ∷ mended_after false (u ∷ x ∷ y ∷ z ∷ w ∷ rest)
  unfolding mended_after
  byte_is h e = rw (h, e) refl

  half_step : is_half front ≡ true → mended_after paired front ≡ mended_front paired front ++ mended_after (is_high front) (drop (front_len front) front)
  unfolding mended_after
  half_step h = rw (six front h, h) refl

  escape_step : is_half front ≡ false → (b == 92) ≡ true → mended_after paired front ≡ mended_front paired front ++ mended_after (is_high front) (drop (front_len front) front)
  unfolding mended_after front_len
  escape_step h e = rw (not_lone paired front h, h, (or_false (is_high front) (is_low front) h).0, e) refl

  byte_step : is_half front ≡ false → (b == 92) ≡ false → mended_after paired front ≡ mended_front paired front ++ mended_after (is_high front) (drop (front_len front) front)
  unfolding mended_after front_len
  byte_step h e = rw (not_lone paired front h, h, (or_false (is_high front) (is_low front) h).0, e) refl

  step : mended_after paired front ≡ mended_front paired front ++ mended_after (is_high front) (drop (front_len front) front)
  step =
      elim (cases_Bool (is_half front)) [
        | inl h ↦ half_step h
        | inr h ↦ elim (cases_Bool (b == 92)) [ inl e ↦ escape_step h e | inr e ↦ byte_step h e ]
      ]

pub mended_step : (paired : Bool) (bytes : List ℕ) → 6 ≤ length bytes → mended_after paired bytes ≡ mended_front paired bytes ++ mended_after (is_high bytes) (drop (front_len bytes) bytes)
mended_step paired [] h = absurd (omega arith)
mended_step paired (a ∷ []) h = absurd (omega arith)
mended_step paired (a ∷ b ∷ []) h = absurd (omega arith)
mended_step paired (a ∷ b ∷ c ∷ []) h = absurd (omega arith)
mended_step paired (a ∷ b ∷ c ∷ d ∷ []) h = absurd (omega arith)
mended_step paired (a ∷ b ∷ c ∷ d ∷ e ∷ []) h = absurd (omega arith)
mended_step paired (b ∷ u ∷ x ∷ y ∷ z ∷ w ∷ rest) h = step paired b u x y z w rest

-- fewer than six bytes stay
pub mended_short : (paired : Bool) (bytes : List ℕ) → length bytes < 6 → mended_after paired bytes ≡ bytes
unfolding mended_after
mended_short paired [] h = refl
mended_short paired (a ∷ []) h = refl
mended_short paired (a ∷ b ∷ []) h = refl
mended_short paired (a ∷ b ∷ c ∷ []) h = refl
mended_short paired (a ∷ b ∷ c ∷ d ∷ []) h = refl
mended_short paired (a ∷ b ∷ c ∷ d ∷ e ∷ []) h = refl
mended_short paired (b ∷ u ∷ x ∷ y ∷ z ∷ w ∷ rest) h = absurd (omega arith)

no_half : (b : ℕ) (bs : List ℕ) → (b == 92) ≡ false → is_half (b ∷ bs) ≡ false
unfolding is_high is_low
no_half b [] e = refl
no_half b (a1 ∷ []) e = refl
no_half b (a1 ∷ a2 ∷ []) e = refl
no_half b (a1 ∷ a2 ∷ a3 ∷ []) e = refl
no_half b (a1 ∷ a2 ∷ a3 ∷ a4 ∷ []) e = refl
no_half b (a1 ∷ a2 ∷ a3 ∷ a4 ∷ a5 ∷ rest) e = rw e refl

-- a byte that begins no escape
pub byte_kept : (paired : Bool) (b : ℕ) (bs : List ℕ) → (b == 92) ≡ false → mended_after paired (b ∷ bs) ≡ b ∷ mended_after false bs
byte_kept paired b [] e = mended_short paired (b ∷ []) (omega arith) ∙ ap (λ l. b ∷ l) (sym (mended_short false [] (omega arith)))
byte_kept paired b (a1 ∷ []) e = mended_short paired (b ∷ a1 ∷ []) (omega arith) ∙ ap (λ l. b ∷ l) (sym (mended_short false (a1 ∷ []) (omega arith)))
byte_kept paired b (a1 ∷ a2 ∷ []) e = mended_short paired (b ∷ a1 ∷ a2 ∷ []) (omega arith) ∙ ap (λ l. b ∷ l) (sym (mended_short false (a1 ∷ a2 ∷ []) (omega arith)))
byte_kept paired b (a1 ∷ a2 ∷ a3 ∷ []) e = mended_short paired (b ∷ a1 ∷ a2 ∷ a3 ∷ []) (omega arith) ∙ ap (λ l. b ∷ l) (sym (mended_short false (a1 ∷ a2 ∷ a3 ∷ []) (omega arith)))
byte_kept paired b (a1 ∷ a2 ∷ a3 ∷ a4 ∷ []) e = mended_short paired (b ∷ a1 ∷ a2 ∷ a3 ∷ a4 ∷ []) (omega arith) ∙ ap (λ l. b ∷ l) (sym (mended_short false (a1 ∷ a2 ∷ a3 ∷ a4 ∷ []) (omega arith)))
byte_kept paired b (a1 ∷ a2 ∷ a3 ∷ a4 ∷ a5 ∷ rest) e = byte_is paired b a1 a2 a3 a4 a5 rest (no_half b (a1 ∷ a2 ∷ a3 ∷ a4 ∷ a5 ∷ rest) e) e

-- bytes that begin no escape
pub run_kept : (paired : Bool) (n : ℕ) (bytes : List ℕ) → 0 < n → n ≤ length bytes → ((k : ℕ) → k < n → (get_or bytes k 0 == 92) ≡ false) → mended_after paired bytes ≡ take n bytes ++ mended_after false (drop n bytes)
run_kept paired zero bytes some within clean = absurd (omega arith)
run_kept paired (suc n) [] some within clean = absurd (omega arith)
run_kept paired (suc zero) (b ∷ bs) some within clean = byte_kept paired b bs (clean 0 (omega arith))
run_kept paired (suc (suc n)) (b ∷ bs) some within clean =
    byte_kept paired b bs (clean 0 (omega arith)) ∙ ap (λ l. b ∷ l) (run_kept false (suc n) bs (omega arith) (omega arith) (λ k h. clean (suc k) (omega arith)))

-- ---- laws

six_long : (paired : Bool) (b u x y z w : ℕ) (rest : List ℕ) → length (if is_lone paired (b ∷ u ∷ x ∷ y ∷ z ∷ w ∷ rest) then replacement else take 6 (b ∷ u ∷ x ∷ y ∷ z ∷ w ∷ rest)) ≡ 6
six_long paired b u x y z w rest =
    elim (cases_Bool (is_lone paired (b ∷ u ∷ x ∷ y ∷ z ∷ w ∷ rest))) [ inl e ↦ rw e refl | inr e ↦ rw e refl ]

pub length_kept : (paired : Bool) (bytes : List ℕ) → length (mended_after paired bytes) ≡ length bytes
length_kept paired [] = ap length (mended_short paired [] (omega arith))
length_kept paired (a ∷ []) = ap length (mended_short paired (a ∷ []) (omega arith))
length_kept paired (a ∷ b ∷ []) = ap length (mended_short paired (a ∷ b ∷ []) (omega arith))
length_kept paired (a ∷ b ∷ c ∷ []) = ap length (mended_short paired (a ∷ b ∷ c ∷ []) (omega arith))
length_kept paired (a ∷ b ∷ c ∷ d ∷ []) = ap length (mended_short paired (a ∷ b ∷ c ∷ d ∷ []) (omega arith))
length_kept paired (a ∷ b ∷ c ∷ d ∷ e ∷ []) = ap length (mended_short paired (a ∷ b ∷ c ∷ d ∷ e ∷ []) (omega arith))
length_kept paired (b ∷ u ∷ x ∷ y ∷ z ∷ w ∷ rest) =
    let all : List ℕ = b ∷ u ∷ x ∷ y ∷ z ∷ w ∷ rest in
    elim (cases_Bool (is_half all)) [
      | inl h ↦
          let later = length_kept (is_high all) rest in
          let six = six_long paired b u x y z w rest in
          ap length (half_is paired b u x y z w rest h) ∙ length-append (if is_lone paired all then replacement else take 6 all) (mended_after (is_high all) rest) ∙ omega (arith, later, six)
      | inr h ↦ elim (cases_Bool (b == 92)) [
        | inl e ↦ ap length (escape_is paired b u x y z w rest h e) ∙ ap (λ n. suc (suc n)) (length_kept false (x ∷ y ∷ z ∷ w ∷ rest))
        | inr e ↦ ap length (byte_is paired b u x y z w rest h e) ∙ ap suc (length_kept false (u ∷ x ∷ y ∷ z ∷ w ∷ rest))
      ]
    ]

pub others_kept : (paired : Bool) (bytes : List ℕ) → ((n : ℕ) → is_half (drop n bytes) ≡ false) → mended_after paired bytes ≡ bytes
others_kept paired [] none = mended_short paired [] (omega arith)
others_kept paired (a ∷ []) none = mended_short paired (a ∷ []) (omega arith)
others_kept paired (a ∷ b ∷ []) none = mended_short paired (a ∷ b ∷ []) (omega arith)
others_kept paired (a ∷ b ∷ c ∷ []) none = mended_short paired (a ∷ b ∷ c ∷ []) (omega arith)
others_kept paired (a ∷ b ∷ c ∷ d ∷ []) none = mended_short paired (a ∷ b ∷ c ∷ d ∷ []) (omega arith)
others_kept paired (a ∷ b ∷ c ∷ d ∷ e ∷ []) none = mended_short paired (a ∷ b ∷ c ∷ d ∷ e ∷ []) (omega arith)
others_kept paired (b ∷ u ∷ x ∷ y ∷ z ∷ w ∷ rest) none =
    elim (cases_Bool (b == 92)) [
      | inl e ↦ escape_is paired b u x y z w rest (none 0) e ∙ ap (λ l. b ∷ u ∷ l) (others_kept false (x ∷ y ∷ z ∷ w ∷ rest) (λ n. none (suc (suc n))))
      | inr e ↦ byte_is paired b u x y z w rest (none 0) e ∙ ap (λ l. b ∷ l) (others_kept false (u ∷ x ∷ y ∷ z ∷ w ∷ rest) (λ n. none (suc n)))
    ]
