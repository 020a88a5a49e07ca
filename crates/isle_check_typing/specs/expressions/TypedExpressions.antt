-- Typed expressions as pure values: each part has a type, and variables are numbers.
use Rattle.std.specs.Prelude.{ℕ, ℤ, List, [], ◌∷◌, Bool}

mutual
  pub data TypedExpressionNode : Type 0 where
    typed_var_expression : (variable : ℕ) → (ty : List ℕ) → TypedExpressionNode
    typed_bool_expression : (val : Bool) → (ty : List ℕ) → TypedExpressionNode
    typed_int_expression : (val : ℤ) → (ty : List ℕ) → TypedExpressionNode
    typed_const_expression : (name ty : List ℕ) → TypedExpressionNode
    typed_term_expression : (term ty : List ℕ) → (args : TypedExpressionList) → TypedExpressionNode
    typed_let_expression : (ty : List ℕ) → (defs : TypedLetList) → (body : TypedExpressionNode) → TypedExpressionNode

  -- typed expressions in order
  pub data TypedExpressionList : Type 0 where
    no_typed_expression : TypedExpressionList
    more_typed_expression : TypedExpressionNode → TypedExpressionList → TypedExpressionList

  -- the variables of a `let` with their values, in order
  pub data TypedLetList : Type 0 where
    no_typed_let : TypedLetList
    more_typed_let : (variable : ℕ) → (val : TypedExpressionNode) → TypedLetList → TypedLetList

-- a variable of a `let` with its value
pub record TypedLetNode : Type 0 where
  pub variable : ℕ
  pub val : TypedExpressionNode

-- the type of a typed expression
abbrev pub type_of_expression : TypedExpressionNode → List ℕ
type_of_expression (typed_var_expression _ ty) = ty
type_of_expression (typed_bool_expression _ ty) = ty
type_of_expression (typed_int_expression _ ty) = ty
type_of_expression (typed_const_expression _ ty) = ty
type_of_expression (typed_term_expression _ ty _) = ty
type_of_expression (typed_let_expression ty _ _) = ty

abbrev pub typed_expression_list : List TypedExpressionNode → TypedExpressionList
typed_expression_list [] = no_typed_expression
typed_expression_list (e ∷ es) = more_typed_expression e (typed_expression_list es)

abbrev pub typed_let_list : List TypedLetNode → TypedLetList
typed_let_list [] = no_typed_let
typed_let_list (d ∷ ds) = more_typed_let d.variable d.val (typed_let_list ds)
