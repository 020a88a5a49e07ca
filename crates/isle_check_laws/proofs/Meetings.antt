-- What is told of rules beside one another: each of the others that are told overlaps with the rule, or is hidden by it, and there is one at least.
use Rattle.std.proofs.Common.{◌≡◌, ◌≢◌, ◌<◌, ◌-◌, ◌==◌, ℕ, List, [], ◌∷◌, Bool, true, false, Option, map, take, Contains, refl, ap, ◌∙◌, subst, length, arith, eqb-true, if◌then◌else◌}
use Rattle.std.specs.List.{All, filter}
use Rattle.std.proofs.lemmas.List.{length-map}
use Rattle.std.proofs.lemmas.List.Elements.{All-append, All-contains, All-nil, All-take}
use Rattle.isle_base_source.specs.declared.pos.Pos.{Pos}
use Rattle.isle_check_environment.specs.signatures.Signatures.{TermNode}
use Rattle.isle_check_overlaps.specs.Candidates.{CandidateNode, candidates, hides}
use Rattle.isle_check_overlaps.specs.Faults.{FaultNode, OtherNode, fault, hidden_by, if_hidden, meetings, met_at, most_told, other, overlaps, shadow_at, shadows, star_at, star_of, stars_of}
use Rattle.isle_check_overlaps.specs.Matchings.{MatchingNode}
use Rattle.isle_check_overlaps.specs.Stars.{PairNode, StarNode, other_than, pairs, top, touches}
use Rattle.isle_check_laws.proofs.Candidates.{below, increase}
use Rattle.isle_check_laws.proofs.Elements.{everyone, only_if, some_left, some_mapped}
use Rattle.isle_check_laws.proofs.Lists.{all_parts, from_map, here, in_part, one}
use Rattle.isle_check_laws.proofs.Pairs.{IsPair, are_pairs}
use Rattle.isle_check_laws.proofs.Stars.{IsAround, Touches, around, some_touch, touched}

-- one of the others overlaps with the rule, and is told so
pub record IsMet (terms : List ℕ → Option TermNode) (cs : List CandidateNode) (c : CandidateNode) (o : OtherNode) : Type 0 where
  pub candidate : CandidateNode
  pub touches : Touches cs c candidate
  pub is : other terms c candidate ≡ o

-- a position is that of a rule which the rule hides
pub record IsHidden (cs : List CandidateNode) (c : CandidateNode) (pos : Pos) : Type 0 where
  pub candidate : CandidateNode
  pub inside : Contains cs candidate
  pub hidden : hides c candidate ≡ true
  pub at : candidate.pos ≡ pos

module _ (terms : List ℕ → Option TermNode) (ms : List MatchingNode) (P : FaultNode → Type 0)
    (met : (c : CandidateNode) (others : List OtherNode) (left_out : ℕ) → Contains (candidates 0 ms) c → others ≢ [] →
    All (IsMet terms (candidates 0 ms) c) others → P (fault (overlaps others left_out) c.pos))
    (hiding : (c : CandidateNode) (others : List Pos) (left_out : ℕ) → Contains (candidates 0 ms) c → others ≢ [] →
    All (IsHidden (candidates 0 ms) c) others → P (fault (shadows others left_out) c.pos)) where
  abbrev cs : List CandidateNode
  cs = candidates 0 ms

  told : (c : CandidateNode) → Contains cs c → (others : List CandidateNode) → 0 < length others → ((d : CandidateNode) → Contains others d → Touches cs c d) →
      P (star_of terms c others)
  told c in_c others some all =
      met c (map (other terms c) (take most_told others)) (length others - most_told) in_c
      (some_mapped (other terms c) (take most_told others) (some_left 9 others some))
      (everyone (IsMet terms cs c) (map (other terms c) (take most_told others))
      (λ o in_o. let at = from_map (other terms c) (take most_told others) o in_o in
      record {
        candidate = at.0;
        touches = All-contains (Touches cs c) (take most_told others) at.0 (All-take (Touches cs c) most_told others (everyone (Touches cs c) others all)) at.1;
        is = at.2;
      }))

  star_told : (c : CandidateNode) → Contains cs c → (s : StarNode) → IsAround (length ms) (pairs cs) s → (b : Bool) → (s.center == c.number) ≡ b →
      All P (if b then star_of terms c s.others ∷ [] else [])
  star_told c in_c s is false differs = All-nil P
  star_told c in_c s is true same =
      let ps = is.first ∷ is.rest in
      let center = top ps (length ms) in
      let pair : (p : PairNode) → Contains ps p → IsPair cs p = λ p in_p. are_pairs cs (increase 0 ms) p (is.inside p in_p) in
      let centered : center ≡ c.number = ap (λ (x : StarNode). x.center) is.is ∙ eqb-true s.center c.number same in
      let some : 0 < length (map (other_than center) (filter (touches center) ps)) =
      omega (
        arith,
        length-map (filter (touches center) ps) (other_than center),
        some_touch (length ms) is.first is.rest (below ms is.first.first (pair is.first (here is.first is.rest)).first_in),
      ) in
      one P (star_of terms c s.others)
      (subst (λ (x : StarNode). P (star_of terms c x.others)) is.is
      (told c in_c (map (other_than center) (filter (touches center) ps)) some (touched cs (increase 0 ms) c in_c center centered ps pair)))

  shadow : (c : CandidateNode) → Contains cs c → (hidden : List Pos) → All (IsHidden cs c) hidden → All P (shadow_at shadows c hidden)
  shadow c in_c [] all = All-nil P
  shadow c in_c (p ∷ ps) all =
      one P (fault (shadows (take most_told (p ∷ ps)) (length (p ∷ ps) - most_told)) c.pos)
      (hiding c (take most_told (p ∷ ps)) (length (p ∷ ps) - most_told) in_c (some_left 9 (p ∷ ps) (omega arith))
      (All-take (IsHidden cs c) most_told (p ∷ ps) all))

  hidden : (c : CandidateNode) → All (IsHidden cs c) (hidden_by hides c cs)
  hidden c =
      everyone (IsHidden cs c) (hidden_by hides c cs)
      (λ p in_p. let at = in_part (if_hidden hides c) cs p in_p in
      let is = only_if (hides c at.0) at.0.pos p at.2 in
      record { candidate = at.0; inside = at.1; hidden = is.0; at = is.1 })

  pub all_met : All P (meetings terms (length ms) cs)
  all_met =
      all_parts P (met_at terms (stars_of (length ms) (pairs cs)) cs) cs
      (λ c in_c. All-append P _ (shadow_at shadows c (hidden_by hides c cs))
      (all_parts P (star_at terms c) (stars_of (length ms) (pairs cs))
      (λ s in_s. star_told c in_c s (around (length ms) (pairs cs) (length (pairs cs)) (pairs cs) (λ p in_p. in_p) s in_s) (s.center == c.number) refl))
      (shadow c in_c (hidden_by hides c cs) (hidden c)))
