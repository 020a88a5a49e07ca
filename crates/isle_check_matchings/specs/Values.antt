-- The places of the values of typed expressions.
use Rattle.std.specs.Prelude.{ℕ, suc, List, [], ◌∷◌, ◌++◌, ◌==◌, Option, None, Some, if◌then◌else◌}
use Rattle.isle_check_environment.specs.signatures.Signatures.{TermNode}
use Rattle.isle_check_typing.specs.expressions.TypedExpressions.{TypedExpressionNode, typed_var_expression, typed_bool_expression, typed_int_expression, typed_const_expression, typed_term_expression, typed_let_expression, TypedExpressionList, no_typed_expression, more_typed_expression, TypedLetList, no_typed_let, more_typed_let}
use Rattle.isle_check_places.specs.Places.{Place, content, each, computed, bool_value, int_value, constant_value, step_on}
use Rattle.isle_check_matchings.specs.Asks.{TermsNode, AskNode, constrains, binds, equals}

-- the place of a value, and the places of the answers that must be there for it
pub record ValueNode : Type 0 where
  pub at : Place
  pub needs : List Place

abbrev pub value_at : Place → List Place → ValueNode
value_at at needs = record { at = at; needs = needs }

-- the value of a variable that is bound by one of these
abbrev pub variable_value : List AskNode → (variable : ℕ) → ValueNode
variable_value [] x = value_at [] []
variable_value (constrains _ _ ∷ known) x = variable_value known x
variable_value (binds y at needs ∷ known) x = if x == y then value_at at needs else variable_value known x
variable_value (equals _ _ ∷ known) x = variable_value known x

-- a partial term needs that its answer is there; a multi term has several, of which each is looked at
abbrev pub answered : Option TermNode → ValueNode → ValueNode
answered None v = v
answered (Some t) v =
    if t.multi then value_at (step_on v.at each) v.needs
    else if t.partial then value_at (step_on v.at content) (v.needs ++ v.at ∷ [])
    else v

-- what a term gives for arguments
abbrev pub term_value : TermsNode → (term : List ℕ) → (count : ℕ) → ValueNode → ValueNode
term_value k term count v = answered (k.terms term) (value_at (step_on v.at (computed term count)) v.needs)

abbrev pub count_typed_expressions : TypedExpressionList → ℕ
count_typed_expressions no_typed_expression = 0
count_typed_expressions (more_typed_expression e es) = suc (count_typed_expressions es)

abbrev pub join : ValueNode → ValueNode → ValueNode
join v w = value_at (v.at ++ w.at) (v.needs ++ w.needs)

-- the value of an expression, where variables are known
abbrev mutual
  pub value : TermsNode → (known : List AskNode) → TypedExpressionNode → ValueNode
  value k known (typed_var_expression x _) = variable_value known x
  value k known (typed_bool_expression val ty) = value_at (bool_value val ty ∷ []) []
  value k known (typed_int_expression val ty) = value_at (int_value val ty ∷ []) []
  value k known (typed_const_expression name _) = value_at (constant_value name ∷ []) []
  value k known (typed_term_expression f _ es) = term_value k f (count_typed_expressions es) (values k known es)
  value k known (typed_let_expression _ ds e) = value k (known_with k known ds) e

  -- the values of expressions, one behind the other
  pub values : TermsNode → (known : List AskNode) → TypedExpressionList → ValueNode
  values k known no_typed_expression = value_at [] []
  values k known (more_typed_expression e es) = join (value k known e) (values k known es)

  -- the variables of a `let` besides
  pub known_with : TermsNode → (known : List AskNode) → TypedLetList → List AskNode
  known_with k known no_typed_let = known
  known_with k known (more_typed_let x e ds) =
      known_with k (known ++ binds x (value k known e).at (value k known e).needs ∷ []) ds

-- what a term gives for expressions
abbrev pub called : TermsNode → (known : List AskNode) → (term : List ℕ) → TypedExpressionList → ValueNode
called k known f es = term_value k f (count_typed_expressions es) (values k known es)
