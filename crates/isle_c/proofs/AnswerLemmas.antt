-- What holds of the answer that is written holds of what the slice has.
use Rattle.std.proofs.Common.{◌≡◌, ℕ, List, subst, sym, ◌∙◌}
use Rattle.isle_c.specs.Answers.{Wants, Writes}

module _ (P : List ℕ → Type 0) (answer shown old new : List ℕ) (told : ℕ) (holds : P answer) (is : shown ≡ answer) where
  pub writes : Writes old new told (λ bytes. bytes ≡ shown) → Writes old new told P
  writes w = record { answer = w.answer; holds = subst P (sym (w.holds ∙ is)) holds; utf8 = w.utf8; whole = w.whole; fits = w.fits; written = w.written }

  pub wants : Wants old told (λ bytes. bytes ≡ shown) → Wants old told P
  wants w = record { answer = w.answer; holds = subst P (sym (w.holds ∙ is)) holds; utf8 = w.utf8; whole = w.whole; short = w.short }
