-- How a run over the programs of a manifest ends.
use Rattle.std.proofs.Common.{◌≡◌, ◌⊎◌, ℕ, ◌≤◌, List, Bool, true, false, Option, inl, inr, sym, subst, arith}
use Rattle.std.specs.Io.KnownBytes.{Keeps}
use Rattle.isle_cli.specs.Arguments.{Given}
use Rattle.isle_lint.specs.Doing.{CutsPrograms, Ends, TellsPrograms, told_status}

-- what is told has status 0, 1 or 3
told-status : (is_read is_clean : Bool) → (told_status is_read is_clean ≤ 1) ⊎ (told_status is_read is_clean ≡ 3)
told-status true true = inl (omega arith)
told-status true false = inl (omega arith)
told-status false true = inr (omega arith)
told-status false false = inr (omega arith)

module _ (given : List Given) (output output' : Option (List ℕ)) where
  told-ends : (status : ℕ) → TellsPrograms given status output output' → (status ≤ 1) ⊎ (status ≡ 3)
  told-ends status told =
      let P : ℕ → Type 0 = λ n. (n ≤ 1) ⊎ (n ≡ 3) in
      subst P (sym told.1.ends) (told-status told.1.is_read told.1.report.is_clean)

  pub ends-statuses : (status : ℕ) → Ends given status output output' → status ≤ 5
  ends-statuses status (inl (inl two, _)) = omega arith
  ends-statuses status (inl (inr three, _)) = omega arith
  ends-statuses status (inr told) = elim (told-ends status told) [ inl low ↦ omega arith | inr three ↦ omega arith ]

  pub ends-done : (status : ℕ) → Ends given status output output' → status ≤ 1 → TellsPrograms given status output output'
  ends-done status (inl (inl two, _)) low = absurd (omega arith)
  ends-done status (inl (inr three, _)) low = absurd (omega arith)
  ends-done status (inr told) low = told

  pub ends-unread : (status : ℕ) → Ends given status output output' → status ≡ 3 → Keeps output output' ⊎ TellsPrograms given status output output'
  ends-unread status (inl (_, kept)) three = inl kept
  ends-unread status (inr told) three = inr told

  pub ends-unwritten : (status : ℕ) → Ends given status output output' → (status ≡ 2) ⊎ (status ≡ 4) → Keeps output output'
  ends-unwritten status (inl (_, kept)) which = kept
  ends-unwritten status (inr told) (inl two) = elim (told-ends status told) [ inl low ↦ absurd (omega arith) | inr three ↦ absurd (omega arith) ]
  ends-unwritten status (inr told) (inr four) = elim (told-ends status told) [ inl low ↦ absurd (omega arith) | inr three ↦ absurd (omega arith) ]

  pub ends-cut : (status : ℕ) → Ends given status output output' → status ≡ 5 → CutsPrograms given output output'
  ends-cut status (inl (inl two, _)) five = absurd (omega arith)
  ends-cut status (inl (inr three, _)) five = absurd (omega arith)
  ends-cut status (inr told) five = elim (told-ends status told) [ inl low ↦ absurd (omega arith) | inr three ↦ absurd (omega arith) ]
