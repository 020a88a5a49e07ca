-- The values at places.
use Rattle.std.specs.Prelude.{◌≡◌, ℕ, List, [], ◌∷◌, Option, Some, None, option_and_then, take, drop, reverse}
use Rattle.isle_check_places.specs.Places.{StepNode, argument, field, content, part, each, extracted, computed, bool_value, int_value, constant_value, Place}
use Rattle.isle_check_places.specs.Settling.{EqualityNode, SettledNode, settled, unequal, endless}
use Rattle.isle_check_laws.specs.Valuations.{Valuation, Satisfies}
use Rattle.isle_check_laws.specs.Worlds.{World}

-- the stack with its top changed
abbrev pub on_top : {V : Type 0} → (V → V) → List V → List V
on_top f [] = []
on_top f (v ∷ stack) = f v ∷ stack

-- A place is evaluated with a stack of values, whose top stands first. A step that begins a place puts its value there, one that goes on changes
-- the top, and a call takes the values of its arguments. Of several answers none is the value
abbrev pub stepped : {V : Type 0} → World V → (input : ℕ → V) → StepNode → List V → List V
stepped w input (argument i) stack = input i ∷ stack
stepped w input (field v i) stack = on_top (w.field v i) stack
stepped w input content stack = on_top w.content stack
stepped w input (part i) stack = on_top (w.part i) stack
stepped w input each stack = []
stepped w input (extracted f) stack = on_top (w.extracted f) stack
stepped w input (computed f n) stack = w.computed f (reverse (take n stack)) ∷ drop n stack
stepped w input (bool_value val ty) stack = w.bool_value val ty ∷ stack
stepped w input (int_value val ty) stack = w.int_value val ty ∷ stack
stepped w input (constant_value name) stack = w.constant_value name ∷ stack

-- the stack after all steps of a place
abbrev pub steps : {V : Type 0} → World V → (input : ℕ → V) → Place → List V → List V
steps w input [] stack = stack
steps w input (a ∷ more) stack = steps w input more (stepped w input a stack)

abbrev pub top : {V : Type 0} → List V → Option V
top [] = None
top (v ∷ stack) = Some v

-- the value at a place, where arguments have these values
abbrev pub value_at : {V : Type 0} → World V → (input : ℕ → V) → Place → Option V
value_at w input at = top (steps w input at [])

-- what holds of the values at places
abbrev pub valuation : {V : Type 0} → World V → (input : ℕ → V) → Valuation
valuation w input at = option_and_then w.constraint (value_at w input at)

-- the values at the places are equal
abbrev pub AreEqual : {V : Type 0} → World V → (input : ℕ → V) → List EqualityNode → Type 0
AreEqual w input [] = Unit {0}
AreEqual w input (e ∷ es) = (value_at w input e.left ≡ value_at w input e.right) × AreEqual w input es

-- what is settled holds; equal places whose constraints differ there cannot be; where there is no end, nothing is said
abbrev pub IsMet : {V : Type 0} → World V → (input : ℕ → V) → SettledNode → Type 0
IsMet w input (settled cs es) = Satisfies (valuation w input) cs × AreEqual w input es
IsMet w input unequal = ⊥
IsMet w input endless = Unit {0}
