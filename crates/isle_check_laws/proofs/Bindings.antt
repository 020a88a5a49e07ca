-- Variables of runs beside what rules ask.
use Rattle.std.proofs.Common.{◌≡◌, ℕ, List, [], ◌∷◌, ◌++◌, ◌==◌, Bool, true, false, Option, Some, sym, subst, if◌then◌else◌}
use Rattle.std.proofs.lemmas.Option.{none-some}
use Rattle.isle_check_places.specs.Places.{Place}
use Rattle.isle_check_matchings.specs.Asks.{AskNode, constrains, binds, equals}
use Rattle.isle_check_matchings.specs.Values.{variable_value}
use Rattle.isle_check_laws.specs.PlaceValues.{value_at, valuation}
use Rattle.isle_check_laws.specs.Runs.{BoundNode, looked_up}
use Rattle.isle_check_laws.specs.Worlds.{World}

pub looked_up_more : {V : Type 0} (bs more : List (BoundNode V)) (x : ℕ) (v : V) → looked_up bs x ≡ Some v → looked_up (bs ++ more) x ≡ Some v
looked_up_more [] more x v h = absurd (none-some v h)
looked_up_more (b ∷ bs) more x v h = by (x == b.variable) h (λ g. looked_up_more bs more x v g) where
  by : (s : Bool) → (if s then b.val else looked_up bs x) ≡ Some v → (looked_up bs x ≡ Some v → looked_up (bs ++ more) x ≡ Some v) →
      (if s then b.val else looked_up (bs ++ more) x) ≡ Some v
  by true h later = h
  by false h later = later h

-- variables are bound in one order, and each value stands so to its place and to the places of the answers that it needs
module _ {V : Type 0} (R : Place → List Place → Option V → Type 0) where
  abbrev pub Fits : List AskNode → List (BoundNode V) → Type 0
  Fits [] [] = Unit {0}
  Fits [] (b ∷ bs) = ⊥
  Fits (constrains _ _ ∷ asks) bs = Fits asks bs
  Fits (equals _ _ ∷ asks) bs = Fits asks bs
  Fits (binds x at needs ∷ asks) [] = ⊥
  Fits (binds x at needs ∷ asks) (b ∷ bs) = ((x ≡ b.variable) × R at needs b.val) × Fits asks bs

  pub append_fits : (asks more : List AskNode) (bs cs : List (BoundNode V)) → Fits asks bs → Fits more cs → Fits (asks ++ more) (bs ++ cs)
  append_fits [] more [] cs f g = g
  append_fits [] more (b ∷ bs) cs f g = absurd f
  append_fits (constrains _ _ ∷ asks) more bs cs f g = append_fits asks more bs cs f g
  append_fits (equals _ _ ∷ asks) more bs cs f g = append_fits asks more bs cs f g
  append_fits (binds x at needs ∷ asks) more [] cs f g = absurd f
  append_fits (binds x at needs ∷ asks) more (b ∷ bs) cs f g = (f.0, append_fits asks more bs cs f.1 g)

  found_by : (asks : List AskNode) (bs : List (BoundNode V)) (x y : ℕ) (at : Place) (needs : List Place) (b : BoundNode V) (v : V) →
      y ≡ b.variable → R at needs b.val →
      (looked_up bs x ≡ Some v → R (variable_value asks x).at (variable_value asks x).needs (Some v)) →
      (s : Bool) → (if s then b.val else looked_up bs x) ≡ Some v →
      R (if s then record { at = at; needs = needs } else variable_value asks x).at (if s then record { at = at; needs = needs } else variable_value asks x).needs (Some v)
  found_by asks bs x y at needs b v e r later true h = subst (R at needs) h r
  found_by asks bs x y at needs b v e r later false h = later h

  -- the value of a variable that is bound, beside its place
  pub found : (asks : List AskNode) (bs : List (BoundNode V)) (x : ℕ) (v : V) → Fits asks bs → looked_up bs x ≡ Some v →
      R (variable_value asks x).at (variable_value asks x).needs (Some v)
  found [] [] x v f h = absurd (none-some v h)
  found [] (b ∷ bs) x v f h = absurd f
  found (constrains _ _ ∷ asks) bs x v f h = found asks bs x v f h
  found (equals _ _ ∷ asks) bs x v f h = found asks bs x v f h
  found (binds y at needs ∷ asks) [] x v f h = absurd f
  found (binds y at needs ∷ asks) (b ∷ bs) x v f h =
      found_by asks bs x y at needs b v f.0.0 f.0.1 (λ g. found asks bs x v f.1 g) (x == y)
      (subst (λ z. (if x == z then b.val else looked_up bs x) ≡ Some v) (sym f.0.0) h)

-- what asks say of the values at places holds, where variables are bound
module _ {V : Type 0} (w : World V) (input : ℕ → V) where
  abbrev pub Asked : List (BoundNode V) → List AskNode → Type 0
  Asked bs [] = Unit {0}
  Asked bs (constrains at c ∷ asks) = (valuation w input at ≡ Some c) × Asked bs asks
  Asked bs (binds _ _ _ ∷ asks) = Asked bs asks
  Asked bs (equals x at ∷ asks) = ((u : V) × ((looked_up bs x ≡ Some u) × (value_at w input at ≡ Some u))) × Asked bs asks

  pub asked_more : (bs more : List (BoundNode V)) (asks : List AskNode) → Asked bs asks → Asked (bs ++ more) asks
  asked_more bs more [] h = tt
  asked_more bs more (constrains at c ∷ asks) h = (h.0, asked_more bs more asks h.1)
  asked_more bs more (binds _ _ _ ∷ asks) h = asked_more bs more asks h
  asked_more bs more (equals x at ∷ asks) h = ((h.0.0, (looked_up_more bs more x h.0.0 h.0.1.0, h.0.1.1)), asked_more bs more asks h.1)

  pub append_asked : (bs : List (BoundNode V)) (asks more : List AskNode) → Asked bs asks → Asked bs more → Asked bs (asks ++ more)
  append_asked bs [] more h g = g
  append_asked bs (constrains at c ∷ asks) more h g = (h.0, append_asked bs asks more h.1 g)
  append_asked bs (binds _ _ _ ∷ asks) more h g = append_asked bs asks more h g
  append_asked bs (equals x at ∷ asks) more h g = (h.0, append_asked bs asks more h.1 g)
