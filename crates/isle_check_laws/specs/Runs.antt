-- Runs of typed rules. They know values, and no places.
use Rattle.std.specs.Prelude.{ℕ, suc, List, [], ◌∷◌, ◌++◌, ◌==◌, Bool, true, false, Option, None, Some, option_map, option_and_then, is_some, length, ◌≡◌, if◌then◌else◌}
use Rattle.isle_check_environment.specs.signatures.Signatures.{TermNode}
use Rattle.isle_check_typing.specs.Typed.{TypedNode, typed_bind, typed_var, typed_bool, typed_int, typed_const, typed_term, typed_wildcard, typed_and, TypedList, no_typed, more_typed}
use Rattle.isle_check_typing.specs.TypedView.{typed_list_of}
use Rattle.isle_check_typing.specs.expressions.TypedExpressions.{TypedExpressionNode, typed_var_expression, typed_bool_expression, typed_int_expression, typed_const_expression, typed_term_expression, typed_let_expression, TypedExpressionList, no_typed_expression, more_typed_expression, TypedLetList, no_typed_let, more_typed_let}
use Rattle.isle_check_rules.specs.TypedRules.{TypedCondition, TypedRuleNode}
use Rattle.isle_check_places.specs.Places.{ConstraintNode, of_variant, of_bool, of_int, of_constant, present, same_constraint}
use Rattle.isle_check_matchings.specs.Asks.{TermsNode, count_typed}
use Rattle.isle_check_laws.specs.Worlds.{World}

-- a variable with its value, if it has one
pub record BoundNode (V : Type 0) : Type 0 where
  pub variable : ℕ
  pub val : Option V

abbrev pub bound : {V : Type 0} → (variable : ℕ) → (val : Option V) → BoundNode V
bound x o = record { variable = x; val = o }

-- the value that a variable is bound to first
abbrev pub looked_up : {V : Type 0} → List (BoundNode V) → (variable : ℕ) → Option V
looked_up [] x = None
looked_up (b ∷ bs) x = if x == b.variable then b.val else looked_up bs x

-- the value, if this holds
abbrev pub only_if : {V : Type 0} → Bool → V → Option V
only_if b x = if b then Some x else None

-- whether the first constraint is there, and is the second
abbrev pub is_constraint : Option ConstraintNode → ConstraintNode → Bool
is_constraint None c = false
is_constraint (Some d) c = same_constraint d c

-- whether a constraint holds of a value
abbrev pub is_of : {V : Type 0} → World V → V → ConstraintNode → Bool
is_of w v c = is_constraint (w.constraint v) c

-- whether the first value is there, and is the second
abbrev pub is_value : {V : Type 0} → World V → Option V → V → Bool
is_value w None v = false
is_value w (Some u) v = w.same u v

-- an extractor of one pattern gives its value, any other the parts of its answer
abbrev pub parts_by : {V : Type 0} → World V → (count : ℕ) → V → (index : ℕ) → V
parts_by w count v i = if count == 1 then v else w.part i v

-- what the arguments of a term are matched with, if it matches a value: the fields of a variant, or what an extractor gives. Its answer must be
-- there unless it always is. A term that is unknown or multi is left out: it matches nothing
abbrev pub opened_by : {V : Type 0} → TermsNode → World V → Option TermNode → (term : List ℕ) → (count : ℕ) → V → Option (ℕ → V)
opened_by k w None term count v = None
opened_by k w (Some t) term count v =
    if t.is_variant then only_if (is_of w v (of_variant term (length t.args))) (λ i. w.field term i v)
    else if t.multi then None
    else if k.infallible term then Some (parts_by w count (w.extracted term v))
    else only_if (is_of w (w.extracted term v) present) (parts_by w count (w.content (w.extracted term v)))

-- a pattern matches a value, where variables are bound: those bound after it, or none if it doesn't match. A variable that is bound matches its
-- own value
abbrev mutual
  pub match_pattern : {V : Type 0} → TermsNode → World V → TypedNode → V → List (BoundNode V) → Option (List (BoundNode V))
  match_pattern k w (typed_bind x _ p) v bs = match_pattern k w p v (bs ++ bound x (Some v) ∷ [])
  match_pattern k w (typed_var x _) v bs = only_if (is_value w (looked_up bs x) v) bs
  match_pattern k w (typed_bool b _) v bs = only_if (is_of w v (of_bool b)) bs
  match_pattern k w (typed_int i _) v bs = only_if (is_of w v (of_int i)) bs
  match_pattern k w (typed_const name _) v bs = only_if (is_of w v (of_constant name)) bs
  match_pattern k w (typed_term f _ ps) v bs =
      option_and_then (λ vs. match_list k w ps vs 0 bs) (opened_by k w (k.terms f) f (count_typed ps) v)
  match_pattern k w (typed_wildcard _) v bs = Some bs
  match_pattern k w (typed_and _ ps) v bs = match_list k w ps (λ _. v) 0 bs

  -- patterns in order, of which the first matches the value of this index
  pub match_list : {V : Type 0} → TermsNode → World V → TypedList → (ℕ → V) → (index : ℕ) → List (BoundNode V) → Option (List (BoundNode V))
  match_list k w no_typed vs i bs = Some bs
  match_list k w (more_typed p ps) vs i bs = option_and_then (match_list k w ps vs (suc i)) (match_pattern k w p (vs i) bs)

-- the value of a term's answer: that of a partial term must be there. A term that is unknown or multi is left out: it has none
abbrev pub given_by : {V : Type 0} → World V → Option TermNode → V → Option V
given_by w None v = None
given_by w (Some t) v = if t.multi then None else if t.partial then only_if (is_of w v present) (w.content v) else Some v

-- the value of an expression, if it has one. Those of a `let` need none unless they are used
abbrev mutual
  pub evaluate : {V : Type 0} → TermsNode → World V → List (BoundNode V) → TypedExpressionNode → Option V
  evaluate k w bs (typed_var_expression x _) = looked_up bs x
  evaluate k w bs (typed_bool_expression val ty) = Some (w.bool_value val ty)
  evaluate k w bs (typed_int_expression val ty) = Some (w.int_value val ty)
  evaluate k w bs (typed_const_expression name _) = Some (w.constant_value name)
  evaluate k w bs (typed_term_expression f _ es) =
      option_and_then (λ vs. given_by w (k.terms f) (w.computed f vs)) (evaluate_list k w bs es)
  evaluate k w bs (typed_let_expression _ ds e) = evaluate k w (evaluate_lets k w bs ds) e

  -- the values of expressions, in order
  pub evaluate_list : {V : Type 0} → TermsNode → World V → List (BoundNode V) → TypedExpressionList → Option (List V)
  evaluate_list k w bs no_typed_expression = Some []
  evaluate_list k w bs (more_typed_expression e es) =
      option_and_then (λ v. option_map (λ vs. v ∷ vs) (evaluate_list k w bs es)) (evaluate k w bs e)

  -- the variables of a `let` besides
  pub evaluate_lets : {V : Type 0} → TermsNode → World V → List (BoundNode V) → TypedLetList → List (BoundNode V)
  evaluate_lets k w bs no_typed_let = bs
  evaluate_lets k w bs (more_typed_let x e ds) = evaluate_lets k w (bs ++ bound x (evaluate k w bs e) ∷ []) ds

-- the value of a condition's expression matches its pattern
abbrev pub run_condition : {V : Type 0} → TermsNode → World V → TypedCondition → List (BoundNode V) → Option (List (BoundNode V))
run_condition k w c bs = option_and_then (λ v. match_pattern k w c.pattern v bs) (evaluate k w bs c.expr)

-- conditions one after another
abbrev pub run_conditions : {V : Type 0} → TermsNode → World V → List TypedCondition → List (BoundNode V) → Option (List (BoundNode V))
run_conditions k w [] bs = Some bs
run_conditions k w (c ∷ cs) bs = option_and_then (run_conditions k w cs) (run_condition k w c bs)

-- a rule on arguments: its patterns match them, and then its conditions hold
abbrev pub run : {V : Type 0} → TermsNode → World V → TypedRuleNode → (input : ℕ → V) → Option (List (BoundNode V))
run k w r input = option_and_then (run_conditions k w r.iflets) (match_list k w (typed_list_of r.args) input 0 [])

-- the rule matches the arguments
abbrev pub Runs : {V : Type 0} → TermsNode → World V → TypedRuleNode → (input : ℕ → V) → Type 0
Runs k w r input = is_some (run k w r input) ≡ true
