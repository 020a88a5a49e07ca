-- How a run over the programs of a manifest ends.
use Rattle.std.proofs.Common.{◌≡◌, ◌⊎◌, ℕ, ◌≤◌, List, Bool, true, false, Option, inl, inr, sym, subst, arith}
use Rattle.std.specs.Io.KnownBytes.{Keeps}
use Rattle.isle_cli.specs.Arguments.{Given}
use Rattle.isle_check.specs.Doing.{CutsPrograms, Ends, TellsPrograms, told_status}

-- what is told has status 0 or 1
told-status : (is_clean : Bool) → told_status is_clean ≤ 1
told-status true = omega arith
told-status false = omega arith

module _ (given : List Given) (output output' : Option (List ℕ)) where
  told-ends : (status : ℕ) → TellsPrograms given status output output' → status ≤ 1
  told-ends status told = subst (λ n. n ≤ 1) (sym told.1.ends) (told-status told.1.report.is_clean)

  pub ends-statuses : (status : ℕ) → Ends given status output output' → status ≤ 5
  ends-statuses status (inl (inl two, _)) = omega arith
  ends-statuses status (inl (inr three, _)) = omega arith
  ends-statuses status (inr told) = let low = told-ends status told in omega (arith, low)

  pub ends-done : (status : ℕ) → Ends given status output output' → status ≤ 1 → TellsPrograms given status output output'
  ends-done status (inl (inl two, _)) low = absurd (omega arith)
  ends-done status (inl (inr three, _)) low = absurd (omega arith)
  ends-done status (inr told) low = told

  pub ends-unwritten : (status : ℕ) → Ends given status output output' → (status ≡ 2) ⊎ (status ≡ 3) ⊎ (status ≡ 4) → Keeps output output'
  ends-unwritten status (inl (_, kept)) which = kept
  ends-unwritten status (inr told) (inl two) = let low = told-ends status told in absurd (omega (arith, low, two))
  ends-unwritten status (inr told) (inr (inl three)) = let low = told-ends status told in absurd (omega (arith, low, three))
  ends-unwritten status (inr told) (inr (inr four)) = let low = told-ends status told in absurd (omega (arith, low, four))

  pub ends-cut : (status : ℕ) → Ends given status output output' → status ≡ 5 → CutsPrograms given output output'
  ends-cut status (inl (inl two, _)) five = absurd (omega arith)
  ends-cut status (inl (inr three, _)) five = absurd (omega arith)
  ends-cut status (inr told) five = let low = told-ends status told in absurd (omega (arith, low, five))
