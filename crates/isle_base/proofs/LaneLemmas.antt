-- From the lanes of 32 bytes to a run of bytes of a class.
use Rattle.std.proofs.Common.{◌≡◌, ℕ, ◌+◌, ◌*◌, ◌%◌, ◌^◌, ◌<◌, ◌≤◌, eqb, Bool, true, false, not, cond, List, [], ◌∷◌, map, length, drop, Fits, w8, refl, sym, ap, ap₂, ◌∙◌, arith}
use Rattle.std.proofs.lemmas.Bool.{agree_below, agree_below_at, eq-eqb, ne_eqb}
use Rattle.std.proofs.lemmas.List.{length-map}
use Rattle.std.proofs.lemmas.List.Folds.{prefix_len-append}
use Rattle.std.proofs.lemmas.List.Sums.{prefix_len-le-length}
use Rattle.std.proofs.lemmas.Simd.{chunk-drop, length-chunk, leading_from_mask_l, mask_l-mod, trailing_mask_l}
use Rattle.std.specs.List.{prefix_len}
use lib.Count.{count_trailing_zeros}
use lib.Lanes.{chunk, mask_l, top, Each1}

each_byte : (f : ℕ → ℕ) (p : ℕ → Bool) → agree_below (λ x. top 7 (f x)) p 256 ≡ true → (v : List ℕ) → Each1 (Fits w8) v → map (top 7) (map f v) ≡ map p v
each_byte f p all [] fits = refl
each_byte f p all (x ∷ xs) fits = ap₂ (λ a b. a ∷ b) (agree_below_at (λ y. top 7 (f y)) p 256 x all fits.0.fits) (each_byte f p all xs fits.1)

-- a mask that is computed lane by lane is held to a test at each of the 256 bytes
pub masked : (f : ℕ → ℕ) (p : ℕ → Bool) (v z : List ℕ) → length v ≤ 64 → Each1 (Fits w8) v → z ≡ map f v → agree_below (λ x. top 7 (f x)) p 256 ≡ true → mask_l (map (top 7) z) % 2 ^ 64 ≡ mask_l (map p v)
masked f p v z short fits e all =
    ap (λ l. mask_l l % 2 ^ 64) (ap (map (top 7)) e ∙ each_byte f p all v fits) ∙ mask_l-mod (map p v) 64 (omega (arith, length-map v p))

module _ (kind : ℕ → Bool) where
  abbrev misses : ℕ → Bool
  misses x = not (kind x)

  cond-not_not : (b : Bool) (n m : ℕ) → n ≡ m → cond b (1 + n) 0 ≡ cond (not (not b)) (1 + m) 0
  cond-not_not true n m e = ap (λ k. 1 + k) e
  cond-not_not false n m e = refl

  same_run : (xs : List ℕ) → prefix_len kind xs ≡ prefix_len (λ x. not (misses x)) xs
  same_run [] = refl
  same_run (x ∷ xs) = cond-not_not (kind x) _ _ (same_run xs)

  none_missed : (b : Bool) (n long m : ℕ) → n ≤ long → cond b (1 + n) 0 ≡ 1 + long → (n ≡ long → m ≡ 0) → cond (not b) 1 0 + 2 * m ≡ 0
  none_missed true n long m le e rest = let none = rest (omega arith) in omega arith
  none_missed false n long m le e rest = let no : ⊥ = omega arith in absurd no

  all_pass : (xs : List ℕ) → prefix_len kind xs ≡ length xs → mask_l (map misses xs) ≡ 0
  all_pass [] e = refl
  all_pass (x ∷ xs) e = none_missed (kind x) _ (length xs) _ (prefix_len-le-length kind xs) (omega arith) (all_pass xs)

  split : (bytes : List ℕ) (at n : ℕ) → let near = chunk at n bytes in prefix_len kind (drop at bytes) ≡ cond (eqb (prefix_len kind near) (length near)) (length near + prefix_len kind (drop (at + n) bytes)) (prefix_len kind near)
  split bytes at n = ap (prefix_len kind) (chunk-drop at n bytes) ∙ prefix_len-append kind (chunk at n bytes) (drop (at + n) bytes)

  -- a run goes on after n bytes, if none of them misses
  pub run_through : (bytes : List ℕ) (at n : ℕ) → at + n ≤ length bytes → mask_l (map misses (chunk at n bytes)) ≡ 0 → prefix_len kind (drop at bytes) ≡ n + prefix_len kind (drop (at + n) bytes)
  run_through bytes at n room none =
      let near = chunk at n bytes in
      split bytes at n ∙ ap (λ b. cond b (length near + prefix_len kind (drop (at + n) bytes)) (prefix_len kind near)) (eq-eqb _ _ (same_run near ∙ leading_from_mask_l misses near none))
      ∙ ap (λ k. k + prefix_len kind (drop (at + n) bytes)) (length-chunk at n bytes room)

  -- and else it is as long as the first that misses says
  pub run_stops : (bytes : List ℕ) (at n : ℕ) → at + n ≤ length bytes → n ≤ 64 → 0 < mask_l (map misses (chunk at n bytes)) → prefix_len kind (drop at bytes) ≡ count_trailing_zeros 64 (mask_l (map misses (chunk at n bytes)))
  run_stops bytes at n room short some =
      let near = chunk at n bytes in
      split bytes at n ∙ ap (λ b. cond b (length near + prefix_len kind (drop (at + n) bytes)) (prefix_len kind near)) (ne_eqb _ _ (λ (e : prefix_len kind near ≡ length near). omega (arith, all_pass near e)))
      ∙ same_run near ∙ sym (trailing_mask_l misses 64 near (omega (arith, length-chunk at n bytes room)) some)
