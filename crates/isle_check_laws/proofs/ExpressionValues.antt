-- Where the answers that a closed expression needs are there, it has a value, which is that at its place.
use Rattle.std.proofs.Common.{◌≡◌, ℕ, suc, List, [], ◌∷◌, ◌++◌, ◌==◌, ◌||◌, map, Bool, true, false, Option, Some, None, refl, ap, sym, ◌∙◌, subst, append_assoc, append-nil, option_and_then, option_map, if◌then◌else◌}
use Rattle.std.proofs.lemmas.List.{map-append}
use Rattle.std.specs.List.{list_any}
use Rattle.isle_check_environment.specs.signatures.Signatures.{TermNode}
use Rattle.isle_check_typing.specs.expressions.TypedExpressions.{TypedExpressionNode, typed_var_expression, typed_bool_expression, typed_int_expression, typed_const_expression, typed_term_expression, typed_let_expression, TypedExpressionList, no_typed_expression, more_typed_expression, TypedLetList, no_typed_let, more_typed_let}
use Rattle.isle_check_places.specs.Places.{Place, ConstraintNode, content, computed, each, present, step_on}
use Rattle.isle_check_matchings.specs.Asks.{TermsNode, AskNode, constrains, equals, binds}
use Rattle.isle_check_matchings.specs.Values as places
use Rattle.isle_check_matchings.specs.Values.{ValueNode, answered, count_typed_expressions, variable_value}
use Rattle.isle_check_laws.specs.Closed.{IsBound, IsSingle, let_variables, IsClosedExpression, AreClosedExpressions, AreClosedLets}
use Rattle.isle_check_laws.specs.PlaceValues.{steps, valuation}
use Rattle.isle_check_laws.specs.Runs.{BoundNode, bound, looked_up, evaluate, evaluate_list, evaluate_lets, given_by, is_of, only_if}
use Rattle.isle_check_laws.specs.Worlds.{World}
use Rattle.isle_check_laws.proofs.Bindings.{Fits, append_fits}
use Rattle.isle_check_laws.proofs.Choices.{only_if_true, is_of_true}
use Rattle.isle_check_laws.proofs.ExpressionRuns.{AllGiven, reversed_more, call_value}
use Rattle.isle_check_laws.proofs.PlaceValues.{steps_append, HasValue, value_is, step_value, ArePresent}

abbrev pub variables : {V : Type 0} → List (BoundNode V) → List ℕ
variables bs = map (λ b. b.variable) bs

pub more_variables : {V : Type 0} (bs cs : List (BoundNode V)) → variables (bs ++ cs) ≡ variables bs ++ variables cs
more_variables {V} bs cs = map-append (λ (b : BoundNode V). b.variable) bs cs

module _ {V : Type 0} (w : World V) (input : ℕ → V) where
  -- where the answers that it needs are there, a value is there, and is that at the place
  abbrev pub Gets : Place → List Place → Option V → Type 0
  Gets at needs o = ArePresent w input needs → (v : V) × ((o ≡ Some v) × HasValue w input at v)

  pub holds_of : (at : Place) (a : V) (c : ConstraintNode) → HasValue w input at a → valuation w input at ≡ Some c → w.constraint a ≡ Some c
  holds_of at a c h is = sym (ap (option_and_then w.constraint) (value_is w input at a h)) ∙ is

  present_split : (ps qs : List Place) → ArePresent w input (ps ++ qs) → ArePresent w input ps × ArePresent w input qs
  present_split [] qs h = (tt, h)
  present_split (p ∷ ps) qs h = let s = present_split ps qs h.1 in ((h.0, s.0), s.1)

  bound_by : (asks : List AskNode) (bs : List (BoundNode V)) (x y : ℕ) (at : Place) (needs : List Place) (b : BoundNode V) → y ≡ b.variable → Gets at needs b.val →
      (list_any (λ z. x == z) (variables bs) ≡ true → Gets (variable_value asks x).at (variable_value asks x).needs (looked_up bs x)) →
      (s : Bool) → (s || list_any (λ z. x == z) (variables bs)) ≡ true →
      Gets (if s then record { at = at; needs = needs } else variable_value asks x).at (if s then record { at = at; needs = needs } else variable_value asks x).needs
      (if s then b.val else looked_up bs x)
  bound_by asks bs x y at needs b e r later true h = r
  bound_by asks bs x y at needs b e r later false h = later h

  -- a variable that is bound gets the value at its place, whatever is asked later
  pub bound_gets : (asks more : List AskNode) (bs : List (BoundNode V)) (x : ℕ) → Fits Gets asks bs → IsBound (variables bs) x →
      Gets (variable_value (asks ++ more) x).at (variable_value (asks ++ more) x).needs (looked_up bs x)
  bound_gets [] more [] x f h = cc
  bound_gets [] more (b ∷ bs) x f h = absurd f
  bound_gets (constrains _ _ ∷ asks) more bs x f h = bound_gets asks more bs x f h
  bound_gets (equals _ _ ∷ asks) more bs x f h = bound_gets asks more bs x f h
  bound_gets (binds y at needs ∷ asks) more [] x f h = absurd f
  bound_gets (binds y at needs ∷ asks) more (b ∷ bs) x f h =
      subst (λ z. Gets (if x == y then record { at = at; needs = needs } else variable_value (asks ++ more) x).at
      (if x == y then record { at = at; needs = needs } else variable_value (asks ++ more) x).needs (if x == z then b.val else looked_up bs x)) f.0.0
      (bound_by (asks ++ more) bs x y at needs b f.0.0 f.0.1 (λ g. bound_gets asks more bs x f.1 g) (x == y)
      (subst (λ z. (x == z || list_any (λ u. x == u) (variables bs)) ≡ true) (sym f.0.0) h))

  answer_got_by : (n : ValueNode) (a : V) (multi partial : Bool) → multi ≡ false → HasValue w input n.at a →
      ArePresent w input (if multi then record { at = step_on n.at each; needs = n.needs }
      else if partial then record { at = step_on n.at content; needs = n.needs ++ n.at ∷ [] } else n).needs →
      (v : V) × (((if multi then None else if partial then only_if (is_of w a present) (w.content a) else Some a) ≡ Some v)
      × HasValue w input (if multi then record { at = step_on n.at each; needs = n.needs }
      else if partial then record { at = step_on n.at content; needs = n.needs ++ n.at ∷ [] } else n).at v)
  answer_got_by n a true partial single h needs = cc
  answer_got_by n a false true single h needs =
      let is = is_of_true w a present (holds_of n.at a present h ((present_split n.needs (n.at ∷ []) needs).1.0)) in
      (w.content a, (only_if_true (is_of w a present) (w.content a) is, step_value w input n.at content a (w.content a) h (λ stack. refl)))
  answer_got_by n a false false single h needs = (a, (refl, h))

  answer_got : (o : Option TermNode) (n : ValueNode) (a : V) → IsSingle o → HasValue w input n.at a → ArePresent w input (answered o n).needs →
      (v : V) × ((given_by w o a ≡ Some v) × HasValue w input (answered o n).at v)
  answer_got None n a single h needs = absurd single
  answer_got (Some t) n a single h needs = answer_got_by n a t.multi t.partial single h needs

  needs_by : (n : ValueNode) (multi partial : Bool) →
      ArePresent w input (if multi then record { at = step_on n.at each; needs = n.needs }
      else if partial then record { at = step_on n.at content; needs = n.needs ++ n.at ∷ [] } else n).needs → ArePresent w input n.needs
  needs_by n true partial needs = needs
  needs_by n false true needs = (present_split n.needs (n.at ∷ []) needs).0
  needs_by n false false needs = needs

  answered_needs : (o : Option TermNode) (n : ValueNode) → ArePresent w input (answered o n).needs → ArePresent w input n.needs
  answered_needs None n needs = needs
  answered_needs (Some t) n needs = needs_by n t.multi t.partial needs

  module _ (k : TermsNode) where
    mutual
      pub evaluates : (e : TypedExpressionNode) (known : List AskNode) (bs : List (BoundNode V)) → Fits Gets known bs → IsClosedExpression k (variables bs) e →
          Gets (places.value k known e).at (places.value k known e).needs (evaluate k w bs e)
      evaluates (typed_var_expression x _) known bs f closed =
          subst (λ asks. Gets (variable_value asks x).at (variable_value asks x).needs (looked_up bs x)) (append-nil known) (bound_gets known [] bs x f closed)
      evaluates (typed_bool_expression b ty) known bs f closed = λ needs. (w.bool_value b ty, (refl, λ stack. refl))
      evaluates (typed_int_expression i ty) known bs f closed = λ needs. (w.int_value i ty, (refl, λ stack. refl))
      evaluates (typed_const_expression name _) known bs f closed = λ needs. (w.constant_value name, (refl, λ stack. refl))
      evaluates (typed_term_expression t _ es) known bs f closed =
          λ needs.
          let n = places.values k known es in
          let m : ValueNode = record { at = step_on n.at (computed t (count_typed_expressions es)); needs = n.needs } in
          let args = evaluates_list es known bs f closed.1 (answered_needs (k.terms t) m needs) in
          let got = answer_got (k.terms t) m (w.computed t args.0) closed.0 (call_value w input t n (count_typed_expressions es) args.0 args.1.1) needs in
          (got.0, (ap (option_and_then (λ vs. given_by w (k.terms t) (w.computed t vs))) args.1.0 ∙ got.1.0, got.1.1))
      evaluates (typed_let_expression _ ds e) known bs f closed =
          let l = evaluates_lets ds known bs f closed.0 in
          evaluates e (places.known_with k known ds) (evaluate_lets k w bs ds) l.0 (subst (λ before. IsClosedExpression k before e) (sym l.1) closed.1)

      evaluates_list : (es : TypedExpressionList) (known : List AskNode) (bs : List (BoundNode V)) → Fits Gets known bs → AreClosedExpressions k (variables bs) es →
          ArePresent w input (places.values k known es).needs →
          (vs : List V) × ((evaluate_list k w bs es ≡ Some vs) × AllGiven w input (places.values k known es) (count_typed_expressions es) vs)
      evaluates_list no_typed_expression known bs f closed needs = ([], (refl, record { pushes = λ stack. refl; needs = tt; counts = refl }))
      evaluates_list (more_typed_expression e es) known bs f closed needs =
          let n = places.value k known e in
          let m = places.values k known es in
          let split = present_split n.needs m.needs needs in
          let one = evaluates e known bs f closed.0 split.0 in
          let rest = evaluates_list es known bs f closed.1 split.1 in (
            one.0 ∷ rest.0,
            (
              ap (option_and_then (λ v. option_map (λ us. v ∷ us) (evaluate_list k w bs es))) one.1.0
                  ∙ ap (option_map (λ us. one.0 ∷ us)) rest.1.0,
              record {
                pushes = λ stack. steps_append w input n.at m.at stack
                    ∙ (ap (steps w input m.at) (one.1.1 stack) ∙ (rest.1.1.pushes (one.0 ∷ stack) ∙ reversed_more w input one.0 rest.0 stack));
                needs = needs;
                counts = ap suc rest.1.1.counts;
              },
            ),
          )

      evaluates_lets : (ds : TypedLetList) (known : List AskNode) (bs : List (BoundNode V)) → Fits Gets known bs → AreClosedLets k (variables bs) ds →
          Fits Gets (places.known_with k known ds) (evaluate_lets k w bs ds) × (variables (evaluate_lets k w bs ds) ≡ variables bs ++ let_variables ds)
      evaluates_lets no_typed_let known bs f closed = (f, sym (append-nil (variables bs)))
      evaluates_lets (more_typed_let x e ds) known bs f closed =
          let n = places.value k known e in
          let new = bound x (evaluate k w bs e) in
          let more = more_variables bs (new ∷ []) in
          let rest = evaluates_lets ds (known ++ binds x n.at n.needs ∷ []) (bs ++ new ∷ [])
          (append_fits Gets known (binds x n.at n.needs ∷ []) bs (new ∷ []) f ((refl, evaluates e known bs f closed.0), tt))
          (subst (λ before. AreClosedLets k before ds) (sym more) closed.1) in
          (rest.0, rest.1 ∙ (ap (λ l. l ++ let_variables ds) more ∙ append_assoc (variables bs) (x ∷ []) (let_variables ds)))
