-- A closed rule runs where what it asks holds.
use Rattle.std.proofs.Common.{◌≡◌, ℕ, List, [], ◌∷◌, ◌++◌, map, Some, refl, ap, sym, ◌∙◌, subst, append_assoc, append-nil, option_and_then, is_some}
use Rattle.std.specs.List.{flat_map}
use Rattle.isle_check_typing.specs.TypedView.{typed_list_of}
use Rattle.isle_check_rules.specs.TypedRules.{TypedCondition, TypedRuleNode}
use Rattle.isle_check_places.specs.Under.{arguments}
use Rattle.isle_check_places.specs.Places.{Place}
use Rattle.isle_check_matchings.specs.Asks.{TermsNode, AskNode, constrains, binds, equals, list_asks, pattern_asks}
use Rattle.isle_check_matchings.specs.Matchings.{constraints_of, equality_of, equalities_of}
use Rattle.isle_check_matchings.specs.RuleAsks.{needed, matched, conditions_asks, rule_asks}
use Rattle.isle_check_matchings.specs.Values as places
use Rattle.isle_check_matchings.specs.Values.{variable_value}
use Rattle.isle_check_laws.specs.Closed.{AreClosedConditions, IsClosed, pattern_variables}
use Rattle.isle_check_laws.specs.PlaceValues.{valuation, AreEqual}
use Rattle.isle_check_laws.specs.Runs.{BoundNode, match_pattern, run_condition, run_conditions, run, Runs}
use Rattle.isle_check_laws.specs.Valuations.{Satisfies}
use Rattle.isle_check_laws.specs.Worlds.{World}
use Rattle.isle_check_laws.proofs.BareAsks.{bare_value, rule_bare}
use Rattle.isle_check_laws.proofs.Bindings.{Fits, append_fits}
use Rattle.isle_check_laws.proofs.ExpressionValues.{Gets, variables, more_variables, evaluates}
use Rattle.isle_check_laws.proofs.PatternValues.{Wanted, wanted_split, pattern_matches, list_matches}
use Rattle.isle_check_laws.proofs.PlaceValues.{ArePresent}

conditions_prefix : (k : TermsNode) (cs : List TypedCondition) (known : List AskNode) → (rest : List AskNode) × (conditions_asks k known cs ≡ known ++ rest)
conditions_prefix k [] known = ([], sym (append-nil known))
conditions_prefix k (c ∷ cs) known =
    let asks = matched k c (places.value k known c.expr) in
    let p = conditions_prefix k cs (known ++ asks) in
    (asks ++ p.0, p.1 ∙ append_assoc known asks p.0)

module _ {V : Type 0} (w : World V) (input : ℕ → V) (k : TermsNode) where
  needed_present : (all : List AskNode) (needs : List Place) → Wanted w input all (map needed needs) → ArePresent w input needs
  needed_present all [] h = tt
  needed_present all (p ∷ ps) h = (h.0, needed_present all ps h.1)

  needed_gets : (needs : List Place) → Fits (Gets w input) (map needed needs) []
  needed_gets [] = tt
  needed_gets (p ∷ ps) = needed_gets ps

  module _ (all : List AskNode) (bare : (x : ℕ) → ArePresent w input (variable_value all x).needs) (wanted : Wanted w input all all) where
    -- one condition
    record Passes (c : TypedCondition) (known : List AskNode) (bs : List (BoundNode V)) : Type 0 where
      new : List (BoundNode V)
      gives : run_condition k w c bs ≡ Some (bs ++ new)
      fits : Fits (Gets w input) (known ++ matched k c (places.value k known c.expr)) (bs ++ new)
      named : variables (bs ++ new) ≡ variables bs ++ pattern_variables c.pattern

    condition_passes : (c : TypedCondition) (cs : List TypedCondition) (known rest : List AskNode) (bs : List (BoundNode V)) → Fits (Gets w input) known bs →
        AreClosedConditions k (variables bs) (c ∷ cs) → all ≡ (known ++ matched k c (places.value k known c.expr)) ++ rest → Passes c known bs
    condition_passes c cs known rest bs f closed is =
        let n = places.value k known c.expr in
        let needs = map needed n.needs in
        let asks = pattern_asks k c.pattern n.at in
        let here = wanted_split w input all known (needs ++ asks)
        ((wanted_split w input all (known ++ (needs ++ asks)) rest (subst (λ l. Wanted w input all l) is wanted)).0) in
        let split = wanted_split w input all needs asks here.1 in
        let value = evaluates w input k c.expr known bs f closed.0 (needed_present all n.needs split.0) in
        let m = pattern_matches w input all k bare c.pattern n.at value.0 (known ++ needs) rest bs value.1.1
        (subst (Fits (Gets w input) (known ++ needs)) (append-nil bs) (append_fits (Gets w input) known needs bs [] f (needed_gets n.needs))) closed.1.0
        (is ∙ (ap (λ l. l ++ rest) (sym (append_assoc known needs asks)) ∙ append_assoc (known ++ needs) asks rest)) split.1 in
        record {
          new = m.new;
          gives = ap (option_and_then (λ v. match_pattern k w c.pattern v bs)) value.1.0 ∙ m.gives;
          fits = append_fits (Gets w input) known (needs ++ asks) bs m.new f (append_fits (Gets w input) needs asks [] m.new (needed_gets n.needs) m.fits);
          named = more_variables bs m.new ∙ ap (λ l. variables bs ++ l) m.named;
        }

    conditions_pass : (cs : List TypedCondition) (known : List AskNode) (bs : List (BoundNode V)) → Fits (Gets w input) known bs →
        AreClosedConditions k (variables bs) cs → all ≡ conditions_asks k known cs → (last : List (BoundNode V)) × (run_conditions k w cs bs ≡ Some last)
    conditions_pass [] known bs f closed is = (bs, refl)
    conditions_pass (c ∷ cs) known bs f closed is =
        let asks = matched k c (places.value k known c.expr) in
        let prefix = conditions_prefix k cs (known ++ asks) in
        let one = condition_passes c cs known prefix.0 bs f closed (is ∙ prefix.1) in
        let rest = conditions_pass cs (known ++ asks) (bs ++ one.new) one.fits
        (subst (λ before. AreClosedConditions k before cs) (sym one.named) closed.1.1) is in
        (rest.0, ap (option_and_then (run_conditions k w cs)) one.gives ∙ rest.1)

  rule_passes : (r : TypedRuleNode) → IsClosed k r → Wanted w input (rule_asks k r) (rule_asks k r) → (last : List (BoundNode V)) × (run k w r input ≡ Some last)
  rule_passes r closed wanted =
      let all = rule_asks k r in
      let bare : (x : ℕ) → ArePresent w input (variable_value all x).needs = λ x. bare_value w input all x (rule_bare w input k r) in
      let ps = typed_list_of r.args in
      let asks = list_asks k arguments 0 ps [] in
      let prefix = conditions_prefix k r.iflets asks in
      let m = list_matches w input all k bare ps arguments [] input 0 [] prefix.0 [] (λ i stack. refl) tt closed.0 prefix.1
      ((wanted_split w input all asks prefix.0 (subst (λ l. Wanted w input all l) prefix.1 wanted)).0) in
      let rest = conditions_pass all bare wanted r.iflets asks m.new m.fits (subst (λ before. AreClosedConditions k before r.iflets) (sym m.named) closed.1) refl in
      (rest.0, ap (option_and_then (run_conditions k w r.iflets)) m.gives ∙ rest.1)

  asks_wanted : (all asks : List AskNode) → Satisfies (valuation w input) (constraints_of asks) → AreEqual w input (flat_map (equality_of all) asks) → Wanted w input all asks
  asks_wanted all [] h g = tt
  asks_wanted all (constrains at c ∷ asks) h g = (h.0, asks_wanted all asks h.1 g)
  asks_wanted all (binds _ _ _ ∷ asks) h g = asks_wanted all asks h g
  asks_wanted all (equals x at ∷ asks) h g = (g.0, asks_wanted all asks h g.1)

  pub runs_law : (r : TypedRuleNode) → IsClosed k r → Satisfies (valuation w input) (constraints_of (rule_asks k r)) →
      AreEqual w input (equalities_of (rule_asks k r)) → Runs k w r input
  runs_law r closed h g =
      let p = rule_passes r closed (asks_wanted (rule_asks k r) (rule_asks k r) h g) in
      ap is_some p.1
