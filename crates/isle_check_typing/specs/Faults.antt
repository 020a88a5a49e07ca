-- Errors of rules: what is wrong, and where. Types, variables and terms are given by their texts.
use Rattle.std.specs.Prelude.{ℕ, ℤ, List, Bool}
use Rattle.isle_base_source.specs.declared.pos.Pos.{Pos}

pub data KindNode : Type 0 where
  integer_type : (val : ℤ) → (ty : List ℕ) → KindNode
  bool_type : (val : Bool) → (ty : List ℕ) → KindNode
  constant_unknown : (name : List ℕ) → KindNode
  constant_type : (expected found : List ℕ) → KindNode
  variable_bound : (name : List ℕ) → KindNode
  variable_type : (name expected found : List ℕ) → KindNode
  term_unknown : (term : List ℕ) → KindNode
  term_type : (expected found : List ℕ) → KindNode
  argument_count : (term : List ℕ) → (given expected : ℕ) → KindNode
  no_extractor : (term : List ℕ) → KindNode
  parameter_without_argument : (term : List ℕ) → KindNode
  macro_argument : KindNode
  integer_without_type : KindNode
  expression_constant_type : (name expected found : List ℕ) → KindNode
  variable_unknown : (name : List ℕ) → KindNode
  expression_variable_type : (name expected found : List ℕ) → KindNode
  let_type_unknown : (name ty : List ℕ) → KindNode
  expression_term_unknown : (term : List ℕ) → (is_variable : Bool) → KindNode
  expression_term_type : (expected found : List ℕ) → KindNode
  impure_term : (term : List ℕ) → KindNode
  multi_term : (term : List ℕ) → KindNode
  partial_term : (term : List ℕ) → (is_multi : Bool) → KindNode
  priority_in_multi : KindNode
  term_undefined : (term : List ℕ) → KindNode
  no_constructor : (term : List ℕ) → KindNode

pub record FaultNode : Type 0 where
  pub kind : KindNode
  pub pos : Pos
