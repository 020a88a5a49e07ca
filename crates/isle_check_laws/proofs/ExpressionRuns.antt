-- The value of an expression is that at its place, and the answers that it needs are there.
use Rattle.std.proofs.Common.{◌≡◌, ℕ, suc, List, [], ◌∷◌, ◌++◌, length, reverse, Bool, true, false, Option, Some, None, refl, ap, ap₂, sym, ◌∙◌, subst, append_assoc, option_map, if◌then◌else◌}
use Rattle.std.proofs.lemmas.List.{reverse-append, reverse-reverse, length-reverse, take_at, drop_at}
use Rattle.std.proofs.lemmas.Option.{none-some, same_Some}
use Rattle.isle_check_environment.specs.signatures.Signatures.{TermNode}
use Rattle.isle_check_typing.specs.expressions.TypedExpressions.{TypedExpressionNode, typed_var_expression, typed_bool_expression, typed_int_expression, typed_const_expression, typed_term_expression, typed_let_expression, TypedExpressionList, no_typed_expression, more_typed_expression, TypedLetList, no_typed_let, more_typed_let}
use Rattle.isle_check_places.specs.Places.{Place, content, computed, each, present, step_on}
use Rattle.isle_check_matchings.specs.Asks.{TermsNode, AskNode, binds}
use Rattle.isle_check_matchings.specs.Values as places
use Rattle.isle_check_matchings.specs.Values.{ValueNode, answered, count_typed_expressions}
use Rattle.isle_check_laws.specs.PlaceValues.{stepped, steps, valuation}
use Rattle.isle_check_laws.specs.Runs.{BoundNode, bound, evaluate, evaluate_list, evaluate_lets, given_by, is_of, only_if}
use Rattle.isle_check_laws.specs.Worlds.{World}
use Rattle.isle_check_laws.proofs.Bindings.{Fits, append_fits, found}
use Rattle.isle_check_laws.proofs.Choices.{only_if_some, then_some, map_some, is_of_some}
use Rattle.isle_check_laws.proofs.PlaceValues.{steps_append, HasValue, constraint_is, step_value, ArePresent, append_present}

module _ {V : Type 0} (w : World V) (input : ℕ → V) where
  -- a value, if it is there, is that at the place, and the answers that it needs are there
  abbrev pub Given : Place → List Place → Option V → Type 0
  Given at needs o = (v : V) → o ≡ Some v → HasValue w input at v × ArePresent w input needs

  abbrev Gives : ValueNode → V → Type 0
  Gives n v = HasValue w input n.at v × ArePresent w input n.needs

  -- the values at places, one behind the other
  pub record AllGiven (n : ValueNode) (count : ℕ) (vs : List V) : Type 0 where
    pub pushes : (stack : List V) → steps w input n.at stack ≡ reverse vs ++ stack
    pub needs : ArePresent w input n.needs
    pub counts : length vs ≡ count

  present_by : (at : Place) (a x v : V) → HasValue w input at a → (b : Bool) → is_of w a present ≡ b → only_if b (w.content a) ≡ Some v →
      HasValue w input (step_on at content) v × (valuation w input at ≡ Some present)
  present_by at a x v h b is e =
      let p = only_if_some b (w.content a) v e in (
        step_value w input at content a v h (λ stack. ap (λ u. u ∷ stack) p.1),
        constraint_is w input at a present h (is_of_some w a present (is ∙ p.0)),
      )

  answer_by : (n : ValueNode) (a v : V) (multi partial : Bool) → Gives n a →
      (if multi then None else if partial then only_if (is_of w a present) (w.content a) else Some a) ≡ Some v →
      Gives (if multi then record { at = step_on n.at each; needs = n.needs }
      else if partial then record { at = step_on n.at content; needs = n.needs ++ n.at ∷ [] } else n) v
  answer_by n a v true partial g e = absurd (none-some v e)
  answer_by n a v false true g e =
      let p = present_by n.at a a v g.0 (is_of w a present) refl e in
      (p.0, append_present w input n.needs (n.at ∷ []) g.1 (p.1, tt))
  answer_by n a v false false g e = subst (Gives n) (same_Some a v e) g

  answer_given : (o : Option TermNode) (n : ValueNode) (a v : V) → Gives n a → given_by w o a ≡ Some v → Gives (answered o n) v
  answer_given None n a v g e = absurd (none-some v e)
  answer_given (Some t) n a v g e = answer_by n a v t.multi t.partial g e

  pub reversed_more : (v : V) (vs stack : List V) → reverse vs ++ (v ∷ stack) ≡ reverse (v ∷ vs) ++ stack
  reversed_more v vs stack =
      sym (append_assoc (reverse vs) (v ∷ []) stack) ∙ ap (λ l. l ++ stack) (sym (reverse-append (v ∷ []) vs))

  pub call_value : (f : List ℕ) (n : ValueNode) (count : ℕ) (vs : List V) → AllGiven n count vs → HasValue w input (step_on n.at (computed f count)) (w.computed f vs)
  call_value f n count vs g stack =
      let counted : length (reverse vs) ≡ count = length-reverse vs ∙ g.counts in
      steps_append w input n.at (computed f count ∷ []) stack
      ∙ (ap (stepped w input (computed f count)) (g.pushes stack)
      ∙ ap₂ (λ args rest. w.computed f (reverse args) ∷ rest) (take_at (reverse vs) stack count counted) (drop_at (reverse vs) stack count counted)
      ∙ ap (λ args. w.computed f args ∷ stack) (reverse-reverse vs))

  module _ (k : TermsNode) where
    mutual
      pub evaluated : (e : TypedExpressionNode) (known : List AskNode) (bs : List (BoundNode V)) (v : V) → Fits Given known bs → evaluate k w bs e ≡ Some v →
          Gives (places.value k known e) v
      evaluated (typed_var_expression x _) known bs v f e = found Given known bs x v f e v refl
      evaluated (typed_bool_expression b ty) known bs v f e = (λ stack. ap (λ u. u ∷ stack) (same_Some (w.bool_value b ty) v e), tt)
      evaluated (typed_int_expression i ty) known bs v f e = (λ stack. ap (λ u. u ∷ stack) (same_Some (w.int_value i ty) v e), tt)
      evaluated (typed_const_expression name _) known bs v f e = (λ stack. ap (λ u. u ∷ stack) (same_Some (w.constant_value name) v e), tt)
      evaluated (typed_term_expression t _ es) known bs v f e =
          let p = then_some (λ vs. given_by w (k.terms t) (w.computed t vs)) (evaluate_list k w bs es) v e in
          let g = evaluated_list es known bs p.0 f p.1.0 in
          let n = places.values k known es in
          answer_given (k.terms t) (record { at = step_on n.at (computed t (count_typed_expressions es)); needs = n.needs }) (w.computed t p.0) v
          (call_value t n (count_typed_expressions es) p.0 g, g.needs) p.1.1
      evaluated (typed_let_expression _ ds e) known bs v f h = evaluated e (places.known_with k known ds) (evaluate_lets k w bs ds) v (evaluated_lets ds known bs f) h

      evaluated_list : (es : TypedExpressionList) (known : List AskNode) (bs : List (BoundNode V)) (vs : List V) → Fits Given known bs → evaluate_list k w bs es ≡ Some vs →
          AllGiven (places.values k known es) (count_typed_expressions es) vs
      evaluated_list no_typed_expression known bs vs f h =
          subst (AllGiven (record { at = []; needs = [] }) 0) (same_Some [] vs h) (record { pushes = λ stack. refl; needs = tt; counts = refl })
      evaluated_list (more_typed_expression e es) known bs vs f h =
          let p = then_some (λ v. option_map (λ us. v ∷ us) (evaluate_list k w bs es)) (evaluate k w bs e) vs h in
          let q = map_some (λ us. p.0 ∷ us) (evaluate_list k w bs es) vs p.1.1 in
          let one = evaluated e known bs p.0 f p.1.0 in
          let rest = evaluated_list es known bs q.0 f q.1.0 in
          let n = places.value k known e in
          let m = places.values k known es in
          subst (AllGiven (places.join n m) (suc (count_typed_expressions es))) q.1.1
          (record {
            pushes = λ stack. steps_append w input n.at m.at stack ∙ (ap (steps w input m.at) (one.0 stack) ∙ (rest.pushes (p.0 ∷ stack) ∙ reversed_more p.0 q.0 stack));
            needs = append_present w input n.needs m.needs one.1 rest.needs;
            counts = ap suc rest.counts;
          })

      evaluated_lets : (ds : TypedLetList) (known : List AskNode) (bs : List (BoundNode V)) → Fits Given known bs →
          Fits Given (places.known_with k known ds) (evaluate_lets k w bs ds)
      evaluated_lets no_typed_let known bs f = f
      evaluated_lets (more_typed_let x e ds) known bs f =
          let n = places.value k known e in
          evaluated_lets ds (known ++ binds x n.at n.needs ∷ []) (bs ++ bound x (evaluate k w bs e) ∷ [])
          (append_fits Given known (binds x n.at n.needs ∷ []) bs (bound x (evaluate k w bs e) ∷ []) f ((refl, λ v h. evaluated e known bs v f h), tt))
