-- Where what a closed pattern asks of a value's place holds, it matches the value.
use Rattle.std.proofs.Common.{◌≡◌, ℕ, suc, List, [], ◌∷◌, ◌++◌, length, Bool, true, false, Option, Some, None, refl, ap, sym, ◌∙◌, subst, append_assoc, append-nil, option_and_then}
use Rattle.isle_check_environment.specs.signatures.Signatures.{TermNode}
use Rattle.isle_check_typing.specs.Typed.{TypedNode, typed_bind, typed_var, typed_bool, typed_int, typed_const, typed_term, typed_wildcard, typed_and, TypedList, no_typed, more_typed}
use Rattle.isle_check_places.specs.Under.{UnderNode, same, place_under}
use Rattle.isle_check_places.specs.Places.{Place, content, extracted, present, step_on, ConstraintNode, of_variant, of_bool, of_int, of_constant}
use Rattle.isle_check_matchings.specs.Asks.{TermsNode, AskNode, constrains, binds, equals, OpeningNode, opening_by, pattern_asks, list_asks, count_typed}
use Rattle.isle_check_matchings.specs.Values.{variable_value}
use Rattle.isle_check_laws.specs.Closed.{IsBound, IsSingle, pattern_variables, list_variables, IsClosedPattern, AreClosedPatterns}
use Rattle.isle_check_laws.specs.PlaceValues.{value_at, valuation}
use Rattle.isle_check_laws.specs.Runs.{BoundNode, bound, looked_up, match_pattern, match_list, opened_by, parts_by, only_if, is_of, is_value}
use Rattle.isle_check_laws.specs.Worlds.{World}
use Rattle.isle_check_laws.proofs.Bindings.{Fits, append_fits}
use Rattle.isle_check_laws.proofs.Choices.{only_if_true, is_of_true, is_value_true}
use Rattle.isle_check_laws.proofs.ExpressionValues.{Gets, variables, more_variables, holds_of, bound_gets}
use Rattle.isle_check_laws.proofs.PatternRuns.{opening_if, opened_if, field_values, part_values}
use Rattle.isle_check_laws.proofs.PlaceValues.{HasValue, value_is, step_value, ArePresent}

module _ {V : Type 0} (w : World V) (input : ℕ → V) (all : List AskNode) where
  -- these asks, among all of a rule, hold of the values at places
  abbrev pub Wanted : List AskNode → Type 0
  Wanted [] = Unit {0}
  Wanted (constrains at c ∷ asks) = (valuation w input at ≡ Some c) × Wanted asks
  Wanted (binds _ _ _ ∷ asks) = Wanted asks
  Wanted (equals x at ∷ asks) = (value_at w input at ≡ value_at w input (variable_value all x).at) × Wanted asks

  pub wanted_split : (asks more : List AskNode) → Wanted (asks ++ more) → Wanted asks × Wanted more
  wanted_split [] more h = (tt, h)
  wanted_split (constrains at c ∷ asks) more h = let s = wanted_split asks more h.1 in ((h.0, s.0), s.1)
  wanted_split (binds _ _ _ ∷ asks) more h = wanted_split asks more h
  wanted_split (equals x at ∷ asks) more h = let s = wanted_split asks more h.1 in ((h.0, s.0), s.1)

  -- more variables are bound, each of which gets the value at its place
  pub record Matches (asks : List AskNode) (bs : List (BoundNode V)) (names : List ℕ) (o : Option (List (BoundNode V))) : Type 0 where
    pub new : List (BoundNode V)
    pub gives : o ≡ Some (bs ++ new)
    pub fits : Fits (Gets w input) asks new
    pub named : variables new ≡ names

  pub matches_nothing : (asks : List AskNode) (bs : List (BoundNode V)) (o : Option (List (BoundNode V))) → o ≡ Some bs → Fits (Gets w input) asks [] → Matches asks bs [] o
  matches_nothing asks bs o h f =
      record { new = []; gives = h ∙ ap (λ (l : List (BoundNode V)). Some l) (sym (append-nil bs)); fits = f; named = refl }

  pub matches_both : (asks more : List AskNode) (bs : List (BoundNode V)) (names others : List ℕ) (o : Option (List (BoundNode V)))
      (f : List (BoundNode V) → Option (List (BoundNode V))) (m : Matches asks bs names o) → Matches more (bs ++ m.new) others (f (bs ++ m.new)) →
      Matches (asks ++ more) bs (names ++ others) (option_and_then f o)
  matches_both asks more bs names others o f m n =
      record {
        new = m.new ++ n.new;
        gives = ap (option_and_then f) m.gives ∙ (n.gives ∙ ap (λ (l : List (BoundNode V)). Some l) (append_assoc bs m.new n.new));
        fits = append_fits (Gets w input) asks more m.new n.new m.fits n.fits;
        named = more_variables m.new n.new ∙ (ap (λ l. l ++ variables n.new) m.named ∙ ap (λ l. names ++ l) n.named);
      }

  -- a term matches, and the values of its arguments are those at their places
  abbrev Opens : OpeningNode → Option (ℕ → V) → Type 0
  Opens o tried =
      Fits (Gets w input) o.asked []
      × ((vs : ℕ → V) × ((tried ≡ Some vs) × ((i : ℕ) → HasValue w input (place_under o.under i o.at) (vs i))))

  opens_cases : (variant multi infallible : Bool) (n : ℕ) (f : List ℕ) (count : ℕ) (at : Place) (v : V) → multi ≡ false → HasValue w input at v →
      Wanted (opening_if w input variant multi infallible n f count at).asked →
      Opens (opening_if w input variant multi infallible n f count at) (opened_if w input variant multi infallible n f count v)
  opens_cases true multi infallible n f count at v single h wanted =
      let is = is_of_true w v (of_variant f n) (holds_of w input at v (of_variant f n) h wanted.0) in
      (tt, (λ i. w.field f i v, (only_if_true (is_of w v (of_variant f n)) (λ i. w.field f i v) is, field_values w input at v f h)))
  opens_cases false true infallible n f count at v single h wanted = cc
  opens_cases false false true n f count at v single h wanted =
      let answer = step_value w input at (extracted f) v (w.extracted f v) h (λ stack. refl) in
      (tt, (parts_by w count (w.extracted f v), (refl, part_values w input (step_on at (extracted f)) (w.extracted f v) count answer)))
  opens_cases false false false n f count at v single h wanted =
      let a = w.extracted f v in
      let place = step_on at (extracted f) in
      let answer = step_value w input at (extracted f) v a h (λ stack. refl) in
      let is = is_of_true w a present (holds_of w input place a present answer wanted.0) in
      let inner = step_value w input place content a (w.content a) answer (λ stack. refl) in (
        tt,
        (parts_by w count (w.content a), (only_if_true (is_of w a present) (parts_by w count (w.content a)) is, part_values w input (step_on place content) (w.content a) count inner)),
      )

  -- the value of a variable that is bound, where it is wanted to be this one
  wanted_value : (known rest : List AskNode) (bs : List (BoundNode V)) (x : ℕ) (at : Place) (v : V) → Fits (Gets w input) known bs → IsBound (variables bs) x →
      all ≡ known ++ rest → ArePresent w input (variable_value all x).needs → HasValue w input at v → value_at w input at ≡ value_at w input (variable_value all x).at → looked_up bs x ≡ Some v
  wanted_value known rest bs x at v f closed is needs h equal =
      let got = subst (λ asks. Gets w input (variable_value asks x).at (variable_value asks x).needs (looked_up bs x)) (sym is) (bound_gets w input known rest bs x f closed) needs in
      got.1.0 ∙ (sym (value_is w input (variable_value all x).at got.0 got.1.1) ∙ (sym equal ∙ value_is w input at v h))

  module _ (k : TermsNode) (bare : (x : ℕ) → ArePresent w input (variable_value all x).needs) where
    term_opens : (o : Option TermNode) (f : List ℕ) (count : ℕ) (at : Place) (v : V) → IsSingle o → HasValue w input at v →
        Wanted (opening_by k o f count at).asked → Opens (opening_by k o f count at) (opened_by k w o f count v)
    term_opens None f count at v single h wanted = absurd single
    term_opens (Some t) f count at v single h wanted = opens_cases t.is_variant t.multi (k.infallible f) (length t.args) f count at v single h wanted

    constraint_matches : (at : Place) (v : V) (c : ConstraintNode) (bs : List (BoundNode V)) → HasValue w input at v → Wanted (constrains at c ∷ []) →
        Matches (constrains at c ∷ []) bs [] (only_if (is_of w v c) bs)
    constraint_matches at v c bs h wanted =
        matches_nothing (constrains at c ∷ []) bs (only_if (is_of w v c) bs)
        (only_if_true (is_of w v c) bs (is_of_true w v c (holds_of w input at v c h wanted.0))) tt

    mutual
      pub pattern_matches : (p : TypedNode) (at : Place) (v : V) (known rest : List AskNode) (bs : List (BoundNode V)) → HasValue w input at v →
          Fits (Gets w input) known bs → IsClosedPattern k (variables bs) p → all ≡ known ++ (pattern_asks k p at ++ rest) → Wanted (pattern_asks k p at) →
          Matches (pattern_asks k p at) bs (pattern_variables p) (match_pattern k w p v bs)
      pattern_matches (typed_bind x _ p) at v known rest bs h f closed is wanted =
          let new = bound x (Some v) in
          let m = pattern_matches p at v (known ++ binds x at [] ∷ []) rest (bs ++ new ∷ []) h
          (append_fits (Gets w input) known (binds x at [] ∷ []) bs (new ∷ []) f ((refl, λ needs. (v, (refl, h))), tt))
          (subst (λ before. IsClosedPattern k before p) (sym (more_variables bs (new ∷ []))) closed)
          (is ∙ sym (append_assoc known (binds x at [] ∷ []) (pattern_asks k p at ++ rest))) wanted in
          record {
            new = new ∷ m.new;
            gives = m.gives ∙ ap (λ (l : List (BoundNode V)). Some l) (append_assoc bs (new ∷ []) m.new);
            fits = ((refl, λ needs. (v, (refl, h))), m.fits);
            named = ap (λ l. x ∷ l) m.named;
          }
      pattern_matches (typed_var x _) at v known rest bs h f closed is wanted =
          let found = wanted_value known (equals x at ∷ rest) bs x at v f closed is (bare x) h wanted.0 in
          matches_nothing (equals x at ∷ []) bs (only_if (is_value w (looked_up bs x) v) bs)
          (only_if_true (is_value w (looked_up bs x) v) bs (is_value_true w (looked_up bs x) v found)) tt
      pattern_matches (typed_bool b _) at v known rest bs h f closed is wanted = constraint_matches at v (of_bool b) bs h wanted
      pattern_matches (typed_int i _) at v known rest bs h f closed is wanted = constraint_matches at v (of_int i) bs h wanted
      pattern_matches (typed_const name _) at v known rest bs h f closed is wanted = constraint_matches at v (of_constant name) bs h wanted
      pattern_matches (typed_term t _ ps) at v known rest bs h f closed is wanted =
          let n = opening_by k (k.terms t) t (count_typed ps) at in
          let split = wanted_split n.asked (list_asks k n.under 0 ps n.at) wanted in
          let o = term_opens (k.terms t) t (count_typed ps) at v closed.0 h split.0 in
          let m = list_matches ps n.under n.at o.1.0 0 (known ++ n.asked) rest bs o.1.1.1
          (subst (Fits (Gets w input) (known ++ n.asked)) (append-nil bs) (append_fits (Gets w input) known n.asked bs [] f o.0)) closed.1
          (is ∙ (ap (λ l. known ++ l) (append_assoc n.asked (list_asks k n.under 0 ps n.at) rest)
          ∙ sym (append_assoc known n.asked (list_asks k n.under 0 ps n.at ++ rest)))) split.1 in
          record {
            new = m.new;
            gives = ap (option_and_then (λ vs. match_list k w ps vs 0 bs)) o.1.1.0 ∙ m.gives;
            fits = append_fits (Gets w input) n.asked (list_asks k n.under 0 ps n.at) [] m.new o.0 m.fits;
            named = m.named;
          }
      pattern_matches (typed_wildcard _) at v known rest bs h f closed is wanted = matches_nothing [] bs (Some bs) refl tt
      pattern_matches (typed_and _ ps) at v known rest bs h f closed is wanted = list_matches ps same at (λ _. v) 0 known rest bs (λ i. h) f closed is wanted

      pub list_matches : (ps : TypedList) (under : UnderNode) (at : Place) (vs : ℕ → V) (i : ℕ) (known rest : List AskNode) (bs : List (BoundNode V)) →
          ((j : ℕ) → HasValue w input (place_under under j at) (vs j)) → Fits (Gets w input) known bs → AreClosedPatterns k (variables bs) ps →
          all ≡ known ++ (list_asks k under i ps at ++ rest) → Wanted (list_asks k under i ps at) →
          Matches (list_asks k under i ps at) bs (list_variables ps) (match_list k w ps vs i bs)
      list_matches no_typed under at vs i known rest bs h f closed is wanted = matches_nothing [] bs (Some bs) refl tt
      list_matches (more_typed p ps) under at vs i known rest bs h f closed is wanted =
          let asks = pattern_asks k p (place_under under i at) in
          let more = list_asks k under (suc i) ps at in
          let split = wanted_split asks more wanted in
          let whole = is ∙ ap (λ l. known ++ l) (append_assoc asks more rest) in
          let one = pattern_matches p (place_under under i at) (vs i) known (more ++ rest) bs (h i) f closed.0 whole split.0 in
          let names = more_variables bs one.new ∙ ap (λ l. variables bs ++ l) one.named in
          matches_both asks more bs (pattern_variables p) (list_variables ps) (match_pattern k w p (vs i) bs) (match_list k w ps vs (suc i)) one
          (list_matches ps under at vs (suc i) (known ++ asks) rest (bs ++ one.new) h
          (append_fits (Gets w input) known asks bs one.new f one.fits)
          (subst (λ before. AreClosedPatterns k before ps) (sym names) closed.1)
          (whole ∙ sym (append_assoc known asks (more ++ rest))) split.1)
