-- Rules that run: they are reachable, and no two of them are apart.
use Rattle.std.proofs.Common.{◌≡◌, ◌≢◌, ℕ, List, [], ◌∷◌, ◌==◌, length, Bool, true, false, not, ◌&&◌, refl, ap, sym, ◌∙◌, subst, bytes_eq, int_eq, if◌then◌else◌}
use Rattle.std.proofs.lemmas.Bool.Decides.{Decides-eqb, Decides-int_eq}
use Rattle.std.proofs.lemmas.List.{nil_from_length}
use Rattle.std.proofs.lemmas.Slice.Eq.{bytes_eq-Decides}
use Rattle.isle_check_rules.specs.TypedRules.{TypedRuleNode}
use Rattle.isle_check_places.specs.Comparing.{apart}
use Rattle.isle_check_places.specs.Settling.{EqualityNode, SettledNode, settled, unequal, endless, most_sweeps}
use Rattle.isle_check_overlaps.specs.Candidates.{CandidateNode, candidate, candidate_by, overlap}
use Rattle.isle_check_overlaps.specs.Matchings.{MatchingNode}
use Rattle.isle_check_matchings.specs.Asks.{TermsNode}
use Rattle.isle_check_matchings.specs.Matchings.{constraints_of, equalities_of, matching}
use Rattle.isle_check_matchings.specs.RuleAsks.{rule_asks}
use Rattle.isle_check_laws.specs.Compared.{IsCompared}
use Rattle.isle_check_laws.specs.PlaceValues.{valuation, AreEqual, IsMet}
use Rattle.isle_check_laws.specs.Runs.{Runs}
use Rattle.isle_check_laws.specs.Valuations.{Satisfies}
use Rattle.isle_check_laws.specs.Worlds.{World}
use Rattle.isle_check_overlaps.proofs.Booleans.{and_first}
use Rattle.isle_check_laws.proofs.ClashLaws.{clashes_none}
use Rattle.isle_check_laws.proofs.ComparisonLaws.{apart_excludes}
use Rattle.isle_check_laws.proofs.RuleRuns.{run_law}
use Rattle.isle_check_laws.proofs.SettlingLaws.{settle_met}

-- what a compared rule is, by its matching
pub record Comes (m : MatchingNode) (c : CandidateNode) : Type 0 where
  pub term : c.term ≡ m.term
  pub prio : c.prio ≡ m.prio
  pub no_clash : m.clashes ≡ []
  pub equal : List EqualityNode
  pub is_equal : c.equal ≡ equal
  pub is_settled : m.settled ≡ settled c.constraints equal
  pub is_plain : c.is_plain ≡ (length equal == 0)

head_is : (c d : CandidateNode) → c ∷ [] ≡ d ∷ [] → c ≡ d
head_is c d h = ap head h where
  head : List CandidateNode → CandidateNode
  head [] = c
  head (x ∷ xs) = x

comes_settled : (number : ℕ) (m : MatchingNode) (c : CandidateNode) (s : SettledNode) → m.clashes ≡ [] → m.settled ≡ s → candidate_by number m s ≡ c ∷ [] → Comes m c
comes_settled number m c (settled cs es) none is h =
    let whole : Comes m (candidate number m cs es) =
    record { term = refl; prio = refl; no_clash = none; equal = es; is_equal = refl; is_settled = is; is_plain = refl } in
    subst (Comes m) (head_is (candidate number m cs es) c h) whole
comes_settled number m c unequal none is h = cc
comes_settled number m c endless none is h = cc

comes_by : (number : ℕ) (m : MatchingNode) (c : CandidateNode) (b : Bool) → (b ≡ true → m.clashes ≡ []) →
    (if b then candidate_by number m m.settled else []) ≡ c ∷ [] → Comes m c
comes_by number m c true none h = comes_settled number m c m.settled (none refl) refl h
comes_by number m c false none h = cc

none_told : (m : MatchingNode) → (length m.clashes == 0 && not m.is_multi) ≡ true → m.clashes ≡ []
none_told m h = nil_from_length m.clashes ((Decides-eqb (length m.clashes) 0).0 (and_first (length m.clashes == 0) (not m.is_multi) h))

pub comes : (k : TermsNode) (r : TypedRuleNode) (c : CandidateNode) → IsCompared k r c → Comes (matching k r) c
comes k r c h =
    let m = matching k r in comes_by h.0 m c (length m.clashes == 0 && not m.is_multi) (none_told m) h.1

module _ {V : Type 0} (k : TermsNode) (w : World V) (input : ℕ → V) where
  -- what is settled of a rule that runs holds
  pub settled_law : (r : TypedRuleNode) → Runs k w r input → IsMet w input (matching k r).settled
  settled_law r h =
      let p = run_law k w r input h in
      settle_met w input most_sweeps (constraints_of (rule_asks k r)) (equalities_of (rule_asks k r)) p.0 p.1

  never_unequal : (s : SettledNode) → IsMet w input s → s ≡ unequal → ⊥
  never_unequal s m e = subst (IsMet w input) e m

  pub reachable_law : (r : TypedRuleNode) → Runs k w r input → ((matching k r).clashes ≡ []) × ((matching k r).settled ≢ unequal)
  reachable_law r h = (
    clashes_none (valuation w input) (constraints_of (rule_asks k r)) ((run_law k w r input h).0),
    never_unequal (matching k r).settled (settled_law r h),
  )

  pub compared_holds : (r : TypedRuleNode) (c : CandidateNode) → IsCompared k r c → Runs k w r input → Satisfies (valuation w input) c.constraints
  compared_holds r c is h = (subst (IsMet w input) ((comes k r c is).is_settled) (settled_law r h)).0

  pub compared_equal : (r : TypedRuleNode) (c : CandidateNode) → IsCompared k r c → Runs k w r input → AreEqual w input c.equal
  compared_equal r c is h =
      let from = comes k r c is in subst (AreEqual w input) (sym from.is_equal) ((subst (IsMet w input) from.is_settled (settled_law r h)).1)

  pub apart_rules_law : (r s : TypedRuleNode) (a b : CandidateNode) → IsCompared k r a → IsCompared k s b → apart a.constraints b.constraints ≡ true →
      Runs k w r input → Runs k w s input → ⊥
  apart_rules_law r s a b is_a is_b h runs_r runs_s =
      apart_excludes (valuation w input) a.constraints b.constraints h (compared_holds r a is_a runs_r) (compared_holds s b is_b runs_s)

  overlap_by : (p t n : Bool) → p ≡ true → t ≡ true → (p && (t && not n)) ≡ false → n ≡ true
  overlap_by true true true hp ht h = refl
  overlap_by true true false hp ht h = cc
  overlap_by true false n hp ht h = cc
  overlap_by false t n hp ht h = cc

  -- rules of one term and one priority that don't overlap never run on one input
  pub overlap_law : (r s : TypedRuleNode) (a b : CandidateNode) → IsCompared k r a → IsCompared k s b → r.term ≡ s.term → r.prio ≡ s.prio → overlap a b ≡ false →
      Runs k w r input → Runs k w s input → ⊥
  overlap_law r s a b is_a is_b terms prios h runs_r runs_s =
      let ca = comes k r a is_a in
      let cb = comes k s b is_b in
      let prio : int_eq a.prio b.prio ≡ true = (Decides-int_eq a.prio b.prio).1 (ca.prio ∙ (prios ∙ sym cb.prio)) in
      let term : bytes_eq a.term b.term ≡ true = (bytes_eq-Decides a.term b.term).1 (ca.term ∙ (terms ∙ sym cb.term)) in
      apart_rules_law r s a b is_a is_b
      (overlap_by (int_eq a.prio b.prio) (bytes_eq a.term b.term) (apart a.constraints b.constraints) prio term h) runs_r runs_s
