-- Places: names of the values that the rules of a term look at.
use Rattle.std.specs.Prelude.{ℕ, ℤ, List, [], ◌∷◌, ◌++◌, Bool, true, false, ◌&&◌, ◌==◌}
use Rattle.std.specs.Bool.{beq}
use Rattle.std.specs.Ordering.{int_eq}
use Rattle.std.specs.Str.{bytes_eq}

-- A place is read from its first step. A rule begins at an argument of its term, at a literal or at a constant. From there the steps go on: to a
-- field of a variant, to what an answer holds that is there, to a part of an answer, to each answer of a multi term, or to what an
-- extractor gives. The step `computed` stands behind the places of its arguments: it goes on to what a term gives for them.
pub data StepNode : Type 0 where
  argument : (index : ℕ) → StepNode
  field : (variant : List ℕ) → (index : ℕ) → StepNode
  content : StepNode
  part : (index : ℕ) → StepNode
  each : StepNode
  extracted : (term : List ℕ) → StepNode
  computed : (term : List ℕ) → (arguments : ℕ) → StepNode
  bool_value : (val : Bool) → (ty : List ℕ) → StepNode
  int_value : (val : ℤ) → (ty : List ℕ) → StepNode
  constant_value : (name : List ℕ) → StepNode

abbrev pub Place : Type 0
Place = List StepNode

-- a place one step on
abbrev pub step_on : Place → StepNode → Place
step_on at step = at ++ step ∷ []

-- what the value at a place must be: of a variant with so many fields, a literal, a constant, or an answer that is there
pub data ConstraintNode : Type 0 where
  of_variant : (variant : List ℕ) → (fields : ℕ) → ConstraintNode
  of_bool : Bool → ConstraintNode
  of_int : ℤ → ConstraintNode
  of_constant : (name : List ℕ) → ConstraintNode
  present : ConstraintNode

pub record ConstrainedNode : Type 0 where
  pub at : Place
  pub constraint : ConstraintNode

-- the two are equal
abbrev pub same_step : StepNode → StepNode → Bool
same_step (argument i) (argument j) = i == j
same_step (field v i) (field w j) = i == j && bytes_eq v w
same_step content content = true
same_step (part i) (part j) = i == j
same_step each each = true
same_step (extracted f) (extracted g) = bytes_eq f g
same_step (computed f m) (computed g n) = m == n && bytes_eq f g
same_step (bool_value a t) (bool_value b u) = beq a b && bytes_eq t u
same_step (int_value a t) (int_value b u) = int_eq a b && bytes_eq t u
same_step (constant_value m) (constant_value n) = bytes_eq m n
same_step _ _ = false

abbrev pub same_place : Place → Place → Bool
same_place [] [] = true
same_place (a ∷ more) (b ∷ others) = same_step a b && same_place more others
same_place _ _ = false

abbrev pub same_constraint : ConstraintNode → ConstraintNode → Bool
same_constraint (of_variant v m) (of_variant w n) = m == n && bytes_eq v w
same_constraint (of_bool a) (of_bool b) = beq a b
same_constraint (of_int a) (of_int b) = int_eq a b
same_constraint (of_constant m) (of_constant n) = bytes_eq m n
same_constraint present present = true
same_constraint _ _ = false
