-- The definition at an offset, by the number of those that begin at or before it.
use Rattle.std.proofs.Common.{◌≡◌, ℕ, zero, suc, ◌+◌, ◌-◌, ◌<◌, ◌≤◌, List, [], ◌∷◌, Bool, true, false, nat_le, length, map, get_or, refl, sym, ◌∙◌, ap, arith}
use Rattle.std.specs.List.{AllWithin}
use Rattle.isle_lint_core.specs.declared.lint.Lint.{Lint}
use Rattle.isle_program.specs.Allowances.{allowance_of, off_at}
use Rattle.isle_program.specs.declared.allowances.Allowed.{Allowed}

module _ (offset : ℕ) where
  abbrev begins : Bool → Allowed → Type 0
  begins is a = nat_le a.start offset ≡ is

  later : (is : Bool) (x : Allowed) (xs : List Allowed) (i j : ℕ) → AllWithin (begins is) (x ∷ xs) (suc i) (suc j) → AllWithin (begins is) xs i j
  later is x xs i j all k d from to = all (suc k) d (omega arith) (omega arith)

  none_begins : (off : List Lint) (xs : List Allowed) → AllWithin (begins false) xs 0 (length xs) → off_at off offset (map allowance_of xs) ≡ off
  none_begins off [] none = refl
  none_begins off (x ∷ xs) none = let first = none 0 x (omega arith) (omega arith) in rw first refl

  last_begins : (off : List Lint) (xs : List Allowed) (k : ℕ) (d : Allowed) → k < length xs → AllWithin (begins true) xs 0 (suc k) → AllWithin (begins false) xs (suc k) (length xs) → off_at off offset (map allowance_of xs) ≡ (get_or xs k d).lints.items
  last_begins off [] k d short all none = absurd (omega arith)
  last_begins off (x ∷ xs) zero d short all none =
      let first = all 0 x (omega arith) (omega arith) in
      rw first (none_begins x.lints.items xs (later false x xs 0 (length xs) none))
  last_begins off (x ∷ xs) (suc k) d short all none =
      let first = all 0 x (omega arith) (omega arith) in
      rw first (last_begins x.lints.items xs k d (omega arith) (λ i e from to. all (suc i) e (omega arith) (omega arith)) (later false x xs (suc k) (length xs) none))

  pub off_none : (off : List Lint) (xs : List Allowed) (count : ℕ) → count ≡ 0 → AllWithin (begins false) xs count (length xs) → off_at off offset (map allowance_of xs) ≡ off
  off_none off xs zero is none = none_begins off xs none
  off_none off xs (suc k) is none = absurd (omega arith)

  pub off_some : (off : List Lint) (xs : List Allowed) (count : ℕ) (d : Allowed) → (count ≡ 0 → ⊥) → count ≤ length xs → AllWithin (begins true) xs 0 count → AllWithin (begins false) xs count (length xs)
      → off_at off offset (map allowance_of xs) ≡ (get_or xs (count - 1) d).lints.items
  off_some off xs zero d isnt within all none = absurd (isnt refl)
  off_some off xs (suc k) d isnt within all none =
      let before : suc k - 1 ≡ k = omega arith in
      last_begins off xs k d (omega arith) all none ∙ ap (λ n. (get_or xs n d).lints.items) (sym before)
