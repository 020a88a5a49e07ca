-- Each error of rules beside one another is broken.
use Rattle.std.proofs.Common.{◌≡◌, ◌+◌, List, [], ◌∷◌, Some, map, Contains, refl, sym, subst, arith, length}
use Rattle.std.specs.List.{All, slice_get}
use Rattle.std.proofs.lemmas.List.Elements.{All-append, All-map, All-nil, All-weaker}
use Rattle.isle_base_source.specs.declared.pos.Pos.{Pos}
use Rattle.isle_check_places.specs.Settling.{SettledNode, endless, settled, unequal}
use Rattle.isle_check_rules.specs.TypedRules.{TypedRuleNode}
use Rattle.isle_check_overlaps.specs.Candidates.{CandidateNode, candidate_of, candidates}
use Rattle.isle_check_overlaps.specs.Faults as kinds
use Rattle.isle_check_overlaps.specs.Faults.{FaultNode, KindNode, OtherNode, fault, meetings, of_clash, of_settled, unreachable, unreachable_rules}
use Rattle.isle_check_overlaps.specs.Matchings.{MatchingNode}
use Rattle.isle_check_matchings.specs.Asks.{TermsNode}
use Rattle.isle_check_matchings.specs.Matchings.{constraints_of, matching, matchings, rule_overlaps}
use Rattle.isle_check_matchings.specs.RuleAsks.{rule_asks}
use Rattle.isle_check_laws.specs.Compared.{IsCompared, Meet}
use Rattle.isle_check_laws.proofs.ComparedLaws.{hiding_meaning, overlap_meaning}
use Rattle.isle_check_laws.proofs.Lists.{all_parts, either, from_map, here, one}
use Rattle.isle_check_laws.specs.BrokenOverlaps as broken
use Rattle.isle_check_laws.specs.BrokenOverlaps.{IsBrokenOverlap, IsComparedAs, IsCovered, IsMeeting}
use Rattle.isle_check_laws.proofs.Candidates.{among, made}
use Rattle.isle_check_laws.proofs.Clashes.{clash_in}
use Rattle.isle_check_laws.proofs.Elements.{everyone, got, got_mapped}
use Rattle.isle_check_laws.proofs.Meetings.{IsHidden, IsMet, all_met}

turned : (a b : CandidateNode) → Meet a b → Meet b a
turned a b m = record { prio = sym m.prio; term = sym m.term; common = (m.common.0, (m.common.1.1, m.common.1.0)) }

module _ (k : TermsNode) (rs : List TypedRuleNode) where
  abbrev Broken : FaultNode → Type 0
  Broken f = IsBrokenOverlap k rs f.kind f.pos

  abbrev cs : List CandidateNode
  cs = candidates 0 (matchings k rs)

  compared_as : (c : CandidateNode) → Contains cs c → IsComparedAs k rs c
  compared_as c inside =
      let is = among 0 (matchings k rs) c inside in
      let rule = got_mapped (matching k) rs is.index is.matching is.at in
      let number : is.index ≡ c.number = omega (arith, is.made.number_is) in
      let numbered : 0 + is.index ≡ c.number = omega (arith, is.made.number_is) in (
        rule.0,
        subst (λ i. slice_get rs i ≡ Some rule.0) number rule.1,
        subst (λ m. candidate_of c.number m ≡ c ∷ []) (sym rule.2) (subst (λ i. candidate_of i is.matching ≡ c ∷ []) numbered is.made.is),
      )

  compared : (c : CandidateNode) (is : IsComparedAs k rs c) → IsCompared k is.0 c
  compared c is = (c.number, is.2)

  meeting : (c : CandidateNode) → Contains cs c → (o : OtherNode) → IsMet k.terms cs c o → IsMeeting k rs c o
  meeting c in_c o met =
      let d = met.candidate in
      let is_c = compared_as c in_c in
      let is_d = compared_as d met.touches.inside in
      record {
        b = d;
        is_compared = is_d;
        is_another = met.touches.differ;
        meet = either ((overlap_meaning k is_c.0 is_d.0 c d (compared c is_c) (compared d is_d)).0)
            (λ h. turned d c ((overlap_meaning k is_d.0 is_c.0 d c (compared d is_d) (compared c is_c)).0 h)) met.touches.meet;
        is = sym met.is;
      }

  covered : (c : CandidateNode) → Contains cs c → (place : Pos) → IsHidden cs c place → IsCovered k rs c place
  covered c in_c place hidden =
      let d = hidden.candidate in
      let is_c = compared_as c in_c in
      let is_d = compared_as d hidden.inside in
      record {
        b = d;
        is_compared = is_d;
        covers = (hiding_meaning k is_c.0 is_d.0 c d (compared c is_c) (compared d is_d)).0 hidden.hidden;
        at = sym hidden.at;
      }

  beside : All Broken (meetings k.terms (length (matchings k rs)) cs)
  beside =
      all_met k.terms (matchings k rs) Broken
      (λ c others left_out in_c some all. broken.overlaps c others left_out (compared_as c in_c) some
      (All-weaker (IsMet k.terms cs c) (IsMeeting k rs c) (meeting c in_c) others all))
      (λ c others left_out in_c some all. broken.shadows c others left_out (compared_as c in_c) some
      (All-weaker (IsHidden cs c) (IsCovered k rs c) (covered c in_c) others all))

  unsettled : (r : TypedRuleNode) → Contains rs r → (s : SettledNode) → (matching k r).settled ≡ s → All Broken (of_settled r.pos s)
  unsettled r in_r (settled _ _) is = All-nil Broken
  unsettled r in_r unequal is = one Broken (fault kinds.unequal_constraints r.pos) (broken.unequal_constraints r in_r is)
  unsettled r in_r endless is = All-nil Broken

  nothing : (r : TypedRuleNode) → Contains rs r → All Broken (unreachable (matching k r))
  nothing r in_r =
      let clashes = (matching k r).clashes in
      All-append Broken (map (of_clash r.pos) clashes) (of_settled r.pos (matching k r).settled)
      (All-map Broken (of_clash r.pos) clashes
      (everyone (λ c. Broken (of_clash r.pos c)) clashes
      (λ c in_c. let is = clash_in (constraints_of (rule_asks k r)) c in_c in
      broken.two_constraints r is.at c.first c.second in_r is.first_in is.second_in is.differ)))
      (unsettled r in_r (matching k r).settled refl)

  alone : All Broken (unreachable_rules (matchings k rs))
  alone =
      all_parts Broken unreachable (matchings k rs)
      (λ m in_m. let at = from_map (matching k) rs m in_m in subst (λ (x : MatchingNode). All Broken (unreachable x)) at.2 (nothing at.0 at.1))

  pub overlaps_broken : All Broken (rule_overlaps k rs).faults
  overlaps_broken = All-append Broken (unreachable_rules (matchings k rs)) (meetings k.terms (length (matchings k rs)) cs) alone beside

  compared_at : (c : CandidateNode) → IsComparedAs k rs c → (r : TypedRuleNode) × Contains rs r × (r.pos ≡ c.pos)
  compared_at c is =
      let m = made c.number (matching k is.0) c (subst (λ ds. Contains ds c) (sym is.2) (here c [])) in
      (is.0, got rs c.number is.0 is.1, sym m.pos_is)

  -- each is at one of the typed rules
  pub at_rule : (kind : KindNode) (place : Pos) → IsBrokenOverlap k rs kind place → (r : TypedRuleNode) × Contains rs r × (r.pos ≡ place)
  at_rule _ _ (broken.two_constraints r at first second in_r _ _ _) = (r, in_r, refl)
  at_rule _ _ (broken.unequal_constraints r in_r _) = (r, in_r, refl)
  at_rule _ _ (broken.overlaps a others left_out is _ _) = compared_at a is
  at_rule _ _ (broken.shadows a others left_out is _ _) = compared_at a is
