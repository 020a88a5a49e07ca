-- The variables of patterns need no answers.
use Rattle.std.proofs.Common.{◌≡◌, ℕ, suc, List, [], ◌∷◌, ◌++◌, ◌==◌, length, map, Bool, true, false, Option, Some, None, refl, sym, subst, if◌then◌else◌}
use Rattle.isle_check_environment.specs.signatures.Signatures.{TermNode}
use Rattle.isle_check_typing.specs.Typed.{TypedNode, typed_bind, typed_var, typed_bool, typed_int, typed_const, typed_term, typed_wildcard, typed_and, TypedList, no_typed, more_typed}
use Rattle.isle_check_typing.specs.TypedView.{typed_list_of}
use Rattle.isle_check_rules.specs.TypedRules.{TypedCondition, TypedRuleNode}
use Rattle.isle_check_places.specs.Under.{UnderNode, same, arguments, place_under}
use Rattle.isle_check_places.specs.Places.{Place}
use Rattle.isle_check_matchings.specs.Asks.{TermsNode, AskNode, constrains, binds, equals, opening_by, pattern_asks, list_asks, count_typed}
use Rattle.isle_check_matchings.specs.RuleAsks.{needed, matched, conditions_asks, rule_asks}
use Rattle.isle_check_matchings.specs.Values as places
use Rattle.isle_check_matchings.specs.Values.{variable_value}
use Rattle.isle_check_laws.specs.Worlds.{World}
use Rattle.isle_check_laws.proofs.PatternRuns.{opening_if}
use Rattle.isle_check_laws.proofs.PlaceValues.{ArePresent}

abbrev pub AreBare : List AskNode → Type 0
AreBare [] = Unit {0}
AreBare (constrains _ _ ∷ asks) = AreBare asks
AreBare (binds _ _ needs ∷ asks) = (needs ≡ []) × AreBare asks
AreBare (equals _ _ ∷ asks) = AreBare asks

append_bare : (asks more : List AskNode) → AreBare asks → AreBare more → AreBare (asks ++ more)
append_bare [] more h g = g
append_bare (constrains _ _ ∷ asks) more h g = append_bare asks more h g
append_bare (binds _ _ needs ∷ asks) more h g = (h.0, append_bare asks more h.1 g)
append_bare (equals _ _ ∷ asks) more h g = append_bare asks more h g

needed_bare : (needs : List Place) → AreBare (map needed needs)
needed_bare [] = tt
needed_bare (p ∷ ps) = needed_bare ps

module _ {V : Type 0} (w : World V) (input : ℕ → V) where
  opening_cases : (variant multi infallible : Bool) (n : ℕ) (f : List ℕ) (count : ℕ) (at : Place) → AreBare (opening_if w input variant multi infallible n f count at).asked
  opening_cases true multi infallible n f count at = tt
  opening_cases false true infallible n f count at = tt
  opening_cases false false true n f count at = tt
  opening_cases false false false n f count at = tt

  bare_by : (asks : List AskNode) (x : ℕ) (at : Place) (needs : List Place) → needs ≡ [] → ArePresent w input (variable_value asks x).needs → (b : Bool) →
      ArePresent w input (if b then record { at = at; needs = needs } else variable_value asks x).needs
  bare_by asks x at needs h later true = subst (ArePresent w input) (sym h) tt
  bare_by asks x at needs h later false = later

  pub bare_value : (asks : List AskNode) (x : ℕ) → AreBare asks → ArePresent w input (variable_value asks x).needs
  bare_value [] x h = tt
  bare_value (constrains _ _ ∷ asks) x h = bare_value asks x h
  bare_value (binds y at needs ∷ asks) x h = bare_by asks x at needs h.0 (bare_value asks x h.1) (x == y)
  bare_value (equals _ _ ∷ asks) x h = bare_value asks x h

  module _ (k : TermsNode) where
    opening_bare : (o : Option TermNode) (f : List ℕ) (count : ℕ) (at : Place) → AreBare (opening_by k o f count at).asked
    opening_bare None f count at = tt
    opening_bare (Some t) f count at = opening_cases t.is_variant t.multi (k.infallible f) (length t.args) f count at

    mutual
      pattern_bare : (p : TypedNode) (at : Place) → AreBare (pattern_asks k p at)
      pattern_bare (typed_bind x _ p) at = (refl, pattern_bare p at)
      pattern_bare (typed_var x _) at = tt
      pattern_bare (typed_bool b _) at = tt
      pattern_bare (typed_int i _) at = tt
      pattern_bare (typed_const name _) at = tt
      pattern_bare (typed_term f _ ps) at =
          let n = opening_by k (k.terms f) f (count_typed ps) at in
          append_bare n.asked (list_asks k n.under 0 ps n.at) (opening_bare (k.terms f) f (count_typed ps) at) (list_bare ps n.under 0 n.at)
      pattern_bare (typed_wildcard _) at = tt
      pattern_bare (typed_and _ ps) at = list_bare ps same 0 at

      list_bare : (ps : TypedList) (under : UnderNode) (i : ℕ) (at : Place) → AreBare (list_asks k under i ps at)
      list_bare no_typed under i at = tt
      list_bare (more_typed p ps) under i at =
          append_bare (pattern_asks k p (place_under under i at)) (list_asks k under (suc i) ps at) (pattern_bare p (place_under under i at)) (list_bare ps under (suc i) at)

    conditions_bare : (cs : List TypedCondition) (known : List AskNode) → AreBare known → AreBare (conditions_asks k known cs)
    conditions_bare [] known h = h
    conditions_bare (c ∷ cs) known h =
        let n = places.value k known c.expr in
        conditions_bare cs (known ++ matched k c n)
        (append_bare known (matched k c n) h (append_bare (map needed n.needs) (pattern_asks k c.pattern n.at) (needed_bare n.needs) (pattern_bare c.pattern n.at)))

    pub rule_bare : (r : TypedRuleNode) → AreBare (rule_asks k r)
    rule_bare r = conditions_bare r.iflets (list_asks k arguments 0 (typed_list_of r.args) []) (list_bare (typed_list_of r.args) arguments 0 [])
