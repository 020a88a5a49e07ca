-- Walks, a step further.
use Rattle.std.proofs.Common.{◌≡◌, ◌==◌, ◌<◌, ◌≤◌, ℕ, ◌+◌, ◌-◌, suc, List, [], ◌∷◌, ◌++◌, Bool, true, false, cond, get_or, refl, ap, sym, ◌∙◌, arith}
use Rattle.std.specs.List.{list_any}
use Rattle.isle_check_recursion.specs.Walks.{AreEnds, ends_from}
use Rattle.isle_check_recursion.specs.Recursion.{endless, walk}

cond_true : {A : Type 0} (b : Bool) (x y : A) → b ≡ true → cond b x y ≡ x
cond_true true x y h = refl
cond_true false x y h = absurd (cc)

cond_false : {A : Type 0} (b : Bool) (x y : A) → b ≡ false → cond b x y ≡ y
cond_false true x y h = absurd (cc)
cond_false false x y h = refl

module _ (n c : ℕ) (step : ℕ → ℕ) (path : List ℕ) (place : ℕ) (all : List ℕ) (here : walk (n - c) step path place ≡ all) where
  begun : c < n → walk (n - c) step path place ≡ walk (suc (n - (c + 1))) step path place
  begun within = let e : n - c ≡ suc (n - (c + 1)) = omega (arith, within) in ap (λ m. walk m step path place) e

  -- a place that is new
  pub walk_on : (later : List ℕ) (onward : ℕ) → c < n → list_any (λ p. p == place) path ≡ false → later ≡ path ++ place ∷ [] → onward ≡ step place →
      walk (n - (c + 1)) step later onward ≡ all
  walk_on later onward within new grown goes =
      ap (λ ps. walk (n - (c + 1)) step ps onward) grown ∙ ap (walk (n - (c + 1)) step (path ++ place ∷ [])) goes
      ∙ sym (cond_false (list_any (λ p. p == place) path) (path ++ place ∷ []) (walk (n - (c + 1)) step (path ++ place ∷ []) (step place)) new)
      ∙ sym (begun within) ∙ here

  -- a place that comes again
  pub walk_closes : c < n → list_any (λ p. p == place) path ≡ true → path ++ place ∷ [] ≡ all
  walk_closes within again =
      sym (cond_true (list_any (λ p. p == place) path) (path ++ place ∷ []) (walk (n - (c + 1)) step (path ++ place ∷ []) (step place)) again)
      ∙ sym (begun within) ∙ here

  pub walk_stops : n ≤ c → path ++ place ∷ [] ≡ all
  walk_stops past = let e : n - c ≡ 0 = omega (arith, past) in sym (ap (λ m. walk m step path place) e) ∙ here

-- the flags say which walks end
pub same_step : (next : List (List ℕ)) (ends : List Bool) (place : ℕ) → AreEnds next ends →
    endless (λ p. get_or ends p false) (get_or next place []) ≡ endless (ends_from next) (get_or next place [])
same_step next ends place are = ap (λ e. endless e (get_or next place [])) (λ i p. are.each p i)
