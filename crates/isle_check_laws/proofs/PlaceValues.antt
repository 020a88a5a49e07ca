-- Values at places, one step on.
use Rattle.std.proofs.Common.{◌≡◌, ℕ, List, [], ◌∷◌, ◌++◌, Some, refl, ap, sym, ◌∙◌, option_map, option_and_then}
use Rattle.isle_check_places.specs.Places.{StepNode, field, content, Place, step_on, ConstraintNode, present}
use Rattle.isle_check_laws.specs.PlaceValues.{on_top, stepped, steps, top, value_at, valuation}
use Rattle.isle_check_laws.specs.Worlds.{World}

module _ {V : Type 0} (w : World V) (input : ℕ → V) where
  pub steps_append : (p q : Place) (stack : List V) → steps w input (p ++ q) stack ≡ steps w input q (steps w input p stack)
  steps_append [] q stack = refl
  steps_append (a ∷ p) q stack = steps_append p q (stepped w input a stack)

  top_on : (f : V → V) (stack : List V) → top (on_top f stack) ≡ option_map f (top stack)
  top_on f [] = refl
  top_on f (v ∷ stack) = refl

  pub field_value : (at : Place) (v : List ℕ) (i : ℕ) → value_at w input (step_on at (field v i)) ≡ option_map (w.field v i) (value_at w input at)
  field_value at v i = ap top (steps_append at (field v i ∷ []) []) ∙ top_on (w.field v i) (steps w input at [])

  pub content_value : (at : Place) → value_at w input (step_on at content) ≡ option_map w.content (value_at w input at)
  content_value at = ap top (steps_append at (content ∷ []) []) ∙ top_on w.content (steps w input at [])

  -- equal values have one constraint and equal parts
  pub equal_constraint : (p q : Place) → value_at w input p ≡ value_at w input q → valuation w input p ≡ valuation w input q
  equal_constraint p q h = ap (option_and_then w.constraint) h

  pub equal_field : (p q : Place) (v : List ℕ) (i : ℕ) → value_at w input p ≡ value_at w input q →
      value_at w input (step_on p (field v i)) ≡ value_at w input (step_on q (field v i))
  equal_field p q v i h = field_value p v i ∙ (ap (option_map (w.field v i)) h ∙ sym (field_value q v i))

  pub equal_content : (p q : Place) → value_at w input p ≡ value_at w input q → value_at w input (step_on p content) ≡ value_at w input (step_on q content)
  equal_content p q h = content_value p ∙ (ap (option_map w.content) h ∙ sym (content_value q))

  -- the place puts this value on any stack
  abbrev pub HasValue : Place → V → Type 0
  HasValue at v = (stack : List V) → steps w input at stack ≡ v ∷ stack

  pub value_is : (at : Place) (v : V) → HasValue at v → value_at w input at ≡ Some v
  value_is at v h = ap top (h [])

  pub constraint_is : (at : Place) (v : V) (c : ConstraintNode) → HasValue at v → w.constraint v ≡ Some c → valuation w input at ≡ Some c
  constraint_is at v c h g = ap (option_and_then w.constraint) (value_is at v h) ∙ g

  -- a place one step on, where the step makes one value of another
  pub step_value : (at : Place) (a : StepNode) (v u : V) → HasValue at v → ((stack : List V) → stepped w input a (v ∷ stack) ≡ u ∷ stack) →
      HasValue (step_on at a) u
  step_value at a v u h g stack = steps_append at (a ∷ []) stack ∙ (ap (stepped w input a) (h stack) ∙ g stack)

  -- the constraint at each of these places is that an answer is there
  abbrev pub ArePresent : List Place → Type 0
  ArePresent [] = Unit {0}
  ArePresent (p ∷ ps) = (valuation w input p ≡ Some present) × ArePresent ps

  pub append_present : (ps qs : List Place) → ArePresent ps → ArePresent qs → ArePresent (ps ++ qs)
  append_present [] qs h g = g
  append_present (p ∷ ps) qs h g = (h.0, append_present ps qs h.1 g)
