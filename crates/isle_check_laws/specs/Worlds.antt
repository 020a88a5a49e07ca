-- Worlds: the values of a program, and what lies outside its rules.
use Rattle.std.specs.Prelude.{◌≡◌, ℕ, ℤ, List, Bool, Option, Decides}
use Rattle.isle_check_places.specs.Places.{ConstraintNode}

-- V are the values, and among them the answers of terms that may have none
pub record World (V : Type 0) : Type 0 where
  pub same : V → V → Bool
  pub decides : (u v : V) → Decides (same u v) (u ≡ v)
  -- the constraint that holds of a value: its variant, literal or constant, or that an answer is there; or none. Two never hold of one value, so
  -- constants of different names differ
  pub constraint : V → Option ConstraintNode
  pub field : (variant : List ℕ) → (index : ℕ) → V → V
  -- what an answer holds
  pub content : V → V
  pub part : (index : ℕ) → V → V
  -- what an extractor gives for a value
  pub extracted : (term : List ℕ) → V → V
  -- what a term gives for values
  pub computed : (term : List ℕ) → List V → V
  pub bool_value : (val : Bool) → (ty : List ℕ) → V
  pub int_value : (val : ℤ) → (ty : List ℕ) → V
  pub constant_value : (name : List ℕ) → V
