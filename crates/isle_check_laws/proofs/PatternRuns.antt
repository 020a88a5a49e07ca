-- Where a pattern matches a value, what it asks of the value's place holds.
use Rattle.std.proofs.Common.{◌≡◌, ℕ, suc, List, [], ◌∷◌, ◌++◌, ◌==◌, length, Bool, true, false, Option, Some, None, refl, ap, sym, ◌∙◌, subst, append_assoc, append-nil, if◌then◌else◌}
use Rattle.std.proofs.lemmas.Option.{none-some, same_Some}
use Rattle.isle_check_environment.specs.signatures.Signatures.{TermNode}
use Rattle.isle_check_typing.specs.Typed.{TypedNode, typed_bind, typed_var, typed_bool, typed_int, typed_const, typed_term, typed_wildcard, typed_and, TypedList, no_typed, more_typed}
use Rattle.isle_check_places.specs.Under.{UnderNode, same, fields, parts, place_under, parts_of}
use Rattle.isle_check_places.specs.Places.{Place, field, content, part, each, extracted, present, step_on, ConstraintNode, of_variant, of_bool, of_int, of_constant}
use Rattle.isle_check_matchings.specs.Asks.{TermsNode, AskNode, constrains, equals, AnswerNode, OpeningNode, opening, opening_by, pattern_asks, list_asks, count_typed}
use Rattle.isle_check_laws.specs.Runs.{BoundNode, bound, looked_up, match_pattern, match_list, opened_by, parts_by, only_if, is_of, is_value}
use Rattle.isle_check_laws.specs.Worlds.{World}
use Rattle.isle_check_laws.proofs.Bindings.{Fits, append_fits, Asked, append_asked, asked_more}
use Rattle.isle_check_laws.proofs.Choices.{only_if_some, then_some, is_of_some, is_value_some}
use Rattle.isle_check_laws.proofs.ExpressionRuns.{Given}
use Rattle.isle_check_laws.proofs.PlaceValues.{HasValue, value_is, constraint_is, step_value}

module _ {V : Type 0} (w : World V) (input : ℕ → V) where
  -- more variables are bound, each of which stands so to its place, and what is asked holds
  abbrev pub Matched : List AskNode → (before after : List (BoundNode V)) → Type 0
  Matched asks bs cs = (new : List (BoundNode V)) × ((cs ≡ bs ++ new) × (Fits (Given w input) asks new × Asked w input cs asks))

  pub matched_nothing : (asks : List AskNode) (bs : List (BoundNode V)) → Fits (Given w input) asks [] → Asked w input bs asks → Matched asks bs bs
  matched_nothing asks bs f a = ([], (sym (append-nil bs), (f, a)))

  pub matched_both : (asks more : List AskNode) (bs cs ds : List (BoundNode V)) → Matched asks bs cs → Matched more cs ds → Matched (asks ++ more) bs ds
  matched_both asks more bs cs ds m n = (
    m.0 ++ n.0,
    (
      n.1.0 ∙ (ap (λ l. l ++ n.0) m.1.0 ∙ append_assoc bs m.0 n.0),
      (
        append_fits (Given w input) asks more m.0 n.0 m.1.1.0 n.1.1.0,
        append_asked w input ds asks more (subst (λ l. Asked w input l asks) (sym n.1.0) (asked_more w input cs n.0 asks m.1.1.1)) n.1.1.1,
      ),
    ),
  )

  -- a term that matches: what it asks by itself holds, and the values of its arguments are those at their places
  abbrev Opened : OpeningNode → (ℕ → V) → Type 0
  Opened o vs =
      Fits (Given w input) o.asked []
      × (((bs : List (BoundNode V)) → Asked w input bs o.asked) × ((i : ℕ) → HasValue w input (place_under o.under i o.at) (vs i)))

  pub field_values : (at : Place) (v : V) (f : List ℕ) → HasValue w input at v → (i : ℕ) → HasValue w input (place_under (fields f) i at) (w.field f i v)
  field_values at v f h i = step_value w input at (field f i) v (w.field f i v) h (λ stack. refl)

  part_values_by : (at : Place) (v : V) → HasValue w input at v → (i : ℕ) (b : Bool) →
      HasValue w input (place_under (if b then same else parts) i at) (if b then v else w.part i v)
  part_values_by at v h i true = h
  part_values_by at v h i false = step_value w input at (part i) v (w.part i v) h (λ stack. refl)

  pub part_values : (at : Place) (v : V) (count : ℕ) → HasValue w input at v → (i : ℕ) → HasValue w input (place_under (parts_of count) i at) (parts_by w count v i)
  part_values at v count h i = part_values_by at v h i (count == 1)

  variant_opened : (f : List ℕ) (n : ℕ) (at : Place) (v : V) (vs : ℕ → V) → HasValue w input at v →
      only_if (is_of w v (of_variant f n)) (λ i. w.field f i v) ≡ Some vs →
      Opened (opening (constrains at (of_variant f n) ∷ []) at (fields f)) vs
  variant_opened f n at v vs h e =
      let p = only_if_some (is_of w v (of_variant f n)) (λ i. w.field f i v) vs e in
      let holds = constraint_is w input at v (of_variant f n) h (is_of_some w v (of_variant f n) p.0) in
      (tt, (λ bs. (holds, tt), λ i. subst (λ us. HasValue w input (place_under (fields f) i at) (us i)) p.1 (field_values at v f h i)))

  -- the same as `answer` and `opening_by`, and as `opened_by`, where what a term is stands by itself
  abbrev pub answer_if : (multi infallible : Bool) → Place → AnswerNode
  answer_if multi infallible at =
      if multi then record { asked = []; at = step_on at each }
      else if infallible then record { asked = []; at = at }
      else record { asked = constrains at present ∷ []; at = step_on at content }

  abbrev pub opening_if : (variant multi infallible : Bool) → (fields : ℕ) → (term : List ℕ) → (count : ℕ) → Place → OpeningNode
  opening_if variant multi infallible n f count at =
      if variant then opening (constrains at (of_variant f n) ∷ []) at (fields f)
      else opening (answer_if multi infallible (step_on at (extracted f))).asked (answer_if multi infallible (step_on at (extracted f))).at (parts_of count)

  abbrev pub opened_if : (variant multi infallible : Bool) → (fields : ℕ) → (term : List ℕ) → (count : ℕ) → V → Option (ℕ → V)
  opened_if variant multi infallible n f count v =
      if variant then only_if (is_of w v (of_variant f n)) (λ i. w.field f i v)
      else if multi then None
      else if infallible then Some (parts_by w count (w.extracted f v))
      else only_if (is_of w (w.extracted f v) present) (parts_by w count (w.content (w.extracted f v)))

  opened_cases : (variant multi infallible : Bool) (n : ℕ) (f : List ℕ) (count : ℕ) (at : Place) (v : V) (vs : ℕ → V) → HasValue w input at v →
      opened_if variant multi infallible n f count v ≡ Some vs → Opened (opening_if variant multi infallible n f count at) vs
  opened_cases true multi infallible n f count at v vs h e = variant_opened f n at v vs h e
  opened_cases false true infallible n f count at v vs h e = absurd (none-some vs e)
  opened_cases false false true n f count at v vs h e =
      let answer = step_value w input at (extracted f) v (w.extracted f v) h (λ stack. refl) in
      let p = same_Some (parts_by w count (w.extracted f v)) vs e in (
        tt,
        (
          λ bs. tt,
          λ i. subst (λ us. HasValue w input (place_under (parts_of count) i (step_on at (extracted f))) (us i)) p
              (part_values (step_on at (extracted f)) (w.extracted f v) count answer i),
        ),
      )
  opened_cases false false false n f count at v vs h e =
      let answer = step_value w input at (extracted f) v (w.extracted f v) h (λ stack. refl) in
      let p = only_if_some (is_of w (w.extracted f v) present) (parts_by w count (w.content (w.extracted f v))) vs e in
      let holds = constraint_is w input (step_on at (extracted f)) (w.extracted f v) present answer (is_of_some w (w.extracted f v) present p.0) in
      let inner = step_value w input (step_on at (extracted f)) content (w.extracted f v) (w.content (w.extracted f v)) answer (λ stack. refl) in (
        tt,
        (
          λ bs. (holds, tt),
          λ i. subst (λ us. HasValue w input (place_under (parts_of count) i (step_on (step_on at (extracted f)) content)) (us i)) p.1
              (part_values (step_on (step_on at (extracted f)) content) (w.content (w.extracted f v)) count inner i),
        ),
      )

  module _ (k : TermsNode) where
    term_opened : (o : Option TermNode) (f : List ℕ) (count : ℕ) (at : Place) (v : V) (vs : ℕ → V) → HasValue w input at v →
        opened_by k w o f count v ≡ Some vs → Opened (opening_by k o f count at) vs
    term_opened None f count at v vs h e = absurd (none-some vs e)
    term_opened (Some t) f count at v vs h e = opened_cases t.is_variant t.multi (k.infallible f) (length t.args) f count at v vs h e

    -- where a variable, a literal or a constant matches, no more variables are bound
    bound_same : (asks : List AskNode) (b : Bool) (bs cs : List (BoundNode V)) → only_if b bs ≡ Some cs → (b ≡ true → Fits (Given w input) asks [] × Asked w input bs asks) →
        Matched asks bs cs
    bound_same asks b bs cs e h =
        let p = only_if_some b bs cs e in
        let g = h p.0 in
        subst (λ ds. Matched asks bs ds) p.1 (matched_nothing asks bs g.0 g.1)

    constraint_matched : (at : Place) (v : V) (c : ConstraintNode) (bs cs : List (BoundNode V)) → HasValue w input at v → only_if (is_of w v c) bs ≡ Some cs →
        Matched (constrains at c ∷ []) bs cs
    constraint_matched at v c bs cs h e =
        bound_same (constrains at c ∷ []) (is_of w v c) bs cs e (λ is. (tt, (constraint_is w input at v c h (is_of_some w v c is), tt)))

    mutual
      pub pattern_matched : (p : TypedNode) (at : Place) (v : V) (bs cs : List (BoundNode V)) → HasValue w input at v → match_pattern k w p v bs ≡ Some cs →
          Matched (pattern_asks k p at) bs cs
      pattern_matched (typed_bind x _ p) at v bs cs h e =
          let m = pattern_matched p at v (bs ++ bound x (Some v) ∷ []) cs h e in
          let given : Given w input at [] (Some v) = λ u is. (subst (HasValue w input at) (same_Some v u is) h, tt) in
          (bound x (Some v) ∷ m.0, (m.1.0 ∙ append_assoc bs (bound x (Some v) ∷ []) m.0, (((refl, given), m.1.1.0), m.1.1.1)))
      pattern_matched (typed_var x _) at v bs cs h e =
          bound_same (equals x at ∷ []) (is_value w (looked_up bs x) v) bs cs e
          (λ is. (tt, ((v, (is_value_some w (looked_up bs x) v is, value_is w input at v h)), tt)))
      pattern_matched (typed_bool b _) at v bs cs h e = constraint_matched at v (of_bool b) bs cs h e
      pattern_matched (typed_int i _) at v bs cs h e = constraint_matched at v (of_int i) bs cs h e
      pattern_matched (typed_const name _) at v bs cs h e = constraint_matched at v (of_constant name) bs cs h e
      pattern_matched (typed_term f _ ps) at v bs cs h e =
          let p = then_some (λ vs. match_list k w ps vs 0 bs) (opened_by k w (k.terms f) f (count_typed ps) v) cs e in
          let o = term_opened (k.terms f) f (count_typed ps) at v p.0 h p.1.0 in
          let n = opening_by k (k.terms f) f (count_typed ps) at in
          matched_both n.asked (list_asks k n.under 0 ps n.at) bs bs cs (matched_nothing n.asked bs o.0 (o.1.0 bs))
          (list_matched ps n.under n.at p.0 0 bs cs o.1.1 p.1.1)
      pattern_matched (typed_wildcard _) at v bs cs h e = subst (λ ds. Matched [] bs ds) (same_Some bs cs e) (matched_nothing [] bs tt tt)
      pattern_matched (typed_and _ ps) at v bs cs h e = list_matched ps same at (λ _. v) 0 bs cs (λ i. h) e

      pub list_matched : (ps : TypedList) (under : UnderNode) (at : Place) (vs : ℕ → V) (i : ℕ) (bs cs : List (BoundNode V)) →
          ((j : ℕ) → HasValue w input (place_under under j at) (vs j)) → match_list k w ps vs i bs ≡ Some cs → Matched (list_asks k under i ps at) bs cs
      list_matched no_typed under at vs i bs cs h e = subst (λ ds. Matched [] bs ds) (same_Some bs cs e) (matched_nothing [] bs tt tt)
      list_matched (more_typed p ps) under at vs i bs cs h e =
          let q = then_some (match_list k w ps vs (suc i)) (match_pattern k w p (vs i) bs) cs e in
          matched_both (pattern_asks k p (place_under under i at)) (list_asks k under (suc i) ps at) bs q.0 cs
          (pattern_matched p (place_under under i at) (vs i) bs q.0 (h i) q.1.0)
          (list_matched ps under at vs (suc i) q.0 cs h q.1.1)
