-- Where a rule runs, what it asks holds.
use Rattle.std.proofs.Common.{◌≡◌, ℕ, List, [], ◌∷◌, ◌++◌, true, Option, Some, None, refl, sym, ◌∙◌, subst, map, is_some}
use Rattle.std.proofs.lemmas.Option.{same_Some}
use Rattle.std.specs.List.{flat_map}
use Rattle.isle_check_typing.specs.TypedView.{typed_list_of}
use Rattle.isle_check_rules.specs.TypedRules.{TypedCondition, TypedRuleNode}
use Rattle.isle_check_places.specs.Under.{arguments}
use Rattle.isle_check_places.specs.Places.{Place}
use Rattle.isle_check_matchings.specs.Asks.{TermsNode, AskNode, constrains, binds, equals, list_asks, pattern_asks}
use Rattle.isle_check_matchings.specs.Matchings.{constraints_of, equality_of, equalities_of}
use Rattle.isle_check_matchings.specs.RuleAsks.{needed, matched, conditions_asks, rule_asks}
use Rattle.isle_check_matchings.specs.Values as places
use Rattle.isle_check_laws.specs.PlaceValues.{valuation, AreEqual}
use Rattle.isle_check_laws.specs.Runs.{BoundNode, evaluate, match_pattern, match_list, run_condition, run_conditions, run, Runs}
use Rattle.isle_check_laws.specs.Valuations.{Satisfies}
use Rattle.isle_check_laws.specs.Worlds.{World}
use Rattle.isle_check_laws.proofs.Bindings.{Fits, append_fits, found, Asked, append_asked, asked_more}
use Rattle.isle_check_laws.proofs.Choices.{then_some}
use Rattle.isle_check_laws.proofs.ExpressionRuns.{Given, evaluated}
use Rattle.isle_check_laws.proofs.PatternRuns.{Matched, matched_nothing, matched_both, pattern_matched, list_matched}
use Rattle.isle_check_laws.proofs.PlaceValues.{value_is, ArePresent}

module _ {V : Type 0} (w : World V) (input : ℕ → V) where
  needed_fit : (needs : List Place) → Fits (Given w input) (map needed needs) []
  needed_fit [] = tt
  needed_fit (p ∷ ps) = needed_fit ps

  needed_asked : (needs : List Place) (bs : List (BoundNode V)) → ArePresent w input needs → Asked w input bs (map needed needs)
  needed_asked [] bs h = tt
  needed_asked (p ∷ ps) bs h = (h.0, needed_asked ps bs h.1)

  -- variables stand so to their places, and what is asked holds
  abbrev Ran : List AskNode → List (BoundNode V) → Type 0
  Ran asks bs = Fits (Given w input) asks bs × Asked w input bs asks

  ran_more : (asks more : List AskNode) (bs cs : List (BoundNode V)) → Ran asks bs → Matched w input more bs cs → Ran (asks ++ more) cs
  ran_more asks more bs cs r m = (
    subst (Fits (Given w input) (asks ++ more)) (sym m.1.0) (append_fits (Given w input) asks more bs m.0 r.0 m.1.1.0),
    append_asked w input cs asks more (subst (λ l. Asked w input l asks) (sym m.1.0) (asked_more w input bs m.0 asks r.1)) m.1.1.1,
  )

  module _ (k : TermsNode) where
    condition_ran : (c : TypedCondition) (known : List AskNode) (bs cs : List (BoundNode V)) → Ran known bs → run_condition k w c bs ≡ Some cs →
        Ran (known ++ matched k c (places.value k known c.expr)) cs
    condition_ran c known bs cs r e =
        let p = then_some (λ v. match_pattern k w c.pattern v bs) (evaluate k w bs c.expr) cs e in
        let n = places.value k known c.expr in
        let g = evaluated w input k c.expr known bs p.0 r.0 p.1.0 in
        ran_more known (matched k c n) bs cs r
        (matched_both w input (map needed n.needs) (pattern_asks k c.pattern n.at) bs bs cs
        (matched_nothing w input (map needed n.needs) bs (needed_fit n.needs) (needed_asked n.needs bs g.1))
        (pattern_matched w input k c.pattern n.at p.0 bs cs g.0 p.1.1))

    conditions_ran : (conditions : List TypedCondition) (known : List AskNode) (bs cs : List (BoundNode V)) → Ran known bs →
        run_conditions k w conditions bs ≡ Some cs → Ran (conditions_asks k known conditions) cs
    conditions_ran [] known bs cs r e = subst (Ran known) (same_Some bs cs e) r
    conditions_ran (c ∷ rest) known bs cs r e =
        let p = then_some (run_conditions k w rest) (run_condition k w c bs) cs e in
        conditions_ran rest (known ++ matched k c (places.value k known c.expr)) p.0 cs (condition_ran c known bs p.0 r p.1.0) p.1.1

    rule_ran : (r : TypedRuleNode) (cs : List (BoundNode V)) → run k w r input ≡ Some cs → Ran (rule_asks k r) cs
    rule_ran r cs e =
        let p = then_some (run_conditions k w r.iflets) (match_list k w (typed_list_of r.args) input 0 []) cs e in
        let m = list_matched w input k (typed_list_of r.args) arguments [] input 0 [] p.0 (λ i stack. refl) p.1.0 in
        conditions_ran r.iflets (list_asks k arguments 0 (typed_list_of r.args) []) p.0 cs (ran_more [] (list_asks k arguments 0 (typed_list_of r.args) []) [] p.0 (tt, tt) m) p.1.1

  constraints_hold : (bs : List (BoundNode V)) (asks : List AskNode) → Asked w input bs asks → Satisfies (valuation w input) (constraints_of asks)
  constraints_hold bs [] a = tt
  constraints_hold bs (constrains at c ∷ asks) a = (a.0, constraints_hold bs asks a.1)
  constraints_hold bs (binds _ _ _ ∷ asks) a = constraints_hold bs asks a
  constraints_hold bs (equals x at ∷ asks) a = constraints_hold bs asks a.1

  equalities_hold : (all : List AskNode) (bs : List (BoundNode V)) (asks : List AskNode) → Fits (Given w input) all bs → Asked w input bs asks →
      AreEqual w input (flat_map (equality_of all) asks)
  equalities_hold all bs [] f a = tt
  equalities_hold all bs (constrains at c ∷ asks) f a = equalities_hold all bs asks f a.1
  equalities_hold all bs (binds _ _ _ ∷ asks) f a = equalities_hold all bs asks f a
  equalities_hold all bs (equals x at ∷ asks) f a =
      let g = found (Given w input) all bs x a.0.0 f a.0.1.0 a.0.0 refl in
      (a.0.1.1 ∙ sym (value_is w input (places.variable_value all x).at a.0.0 g.0), equalities_hold all bs asks f a.1)

some_of : {A : Type 0} (o : Option A) → is_some o ≡ true → (x : A) × (o ≡ Some x)
some_of None h = cc
some_of (Some x) h = (x, refl)

-- what a rule that runs asks holds
pub run_law : {V : Type 0} (k : TermsNode) (w : World V) (r : TypedRuleNode) (input : ℕ → V) → Runs k w r input →
    Satisfies (valuation w input) (constraints_of (rule_asks k r)) × AreEqual w input (equalities_of (rule_asks k r))
run_law k w r input h =
    let p = some_of (run k w r input) h in
    let ran = rule_ran w input k r p.0 p.1 in
    (constraints_hold w input p.0 (rule_asks k r) ran.1, equalities_hold w input (rule_asks k r) p.0 (rule_asks k r) ran.0 ran.1)
