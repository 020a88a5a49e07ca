-- Typed patterns as pure values: each part has a type, and variables are numbers.
use Rattle.std.specs.Prelude.{ℕ, ℤ, List, Bool}

mutual
  pub data TypedNode : Type 0 where
    typed_bind : (variable : ℕ) → (ty : List ℕ) → (subpat : TypedNode) → TypedNode
    typed_var : (variable : ℕ) → (ty : List ℕ) → TypedNode
    typed_bool : (val : Bool) → (ty : List ℕ) → TypedNode
    typed_int : (val : ℤ) → (ty : List ℕ) → TypedNode
    typed_const : (name ty : List ℕ) → TypedNode
    typed_term : (term ty : List ℕ) → (args : TypedList) → TypedNode
    typed_wildcard : (ty : List ℕ) → TypedNode
    typed_and : (ty : List ℕ) → (subpats : TypedList) → TypedNode

  -- typed patterns in order
  pub data TypedList : Type 0 where
    no_typed : TypedList
    more_typed : TypedNode → TypedList → TypedList

-- the type of a typed pattern
abbrev pub type_of : TypedNode → List ℕ
type_of (typed_bind _ ty _) = ty
type_of (typed_var _ ty) = ty
type_of (typed_bool _ ty) = ty
type_of (typed_int _ ty) = ty
type_of (typed_const _ ty) = ty
type_of (typed_term _ ty _) = ty
type_of (typed_wildcard ty) = ty
type_of (typed_and ty _) = ty
