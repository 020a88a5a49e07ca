-- The pairs of rules that overlap.
use Rattle.std.proofs.Common.{◌≡◌, ◌<◌, List, [], ◌∷◌, ◌++◌, true, Contains, subst}
use Rattle.std.proofs.lemmas.List.Elements.{Contains-append_cases}
use Rattle.isle_check_overlaps.specs.Candidates.{CandidateNode, overlap}
use Rattle.isle_check_overlaps.specs.Stars.{PairNode, pair, pairs, pairs_after, pairs_before}
use Rattle.isle_check_laws.proofs.Candidates.{Increase}
use Rattle.isle_check_laws.proofs.Elements.{only_if}
use Rattle.isle_check_laws.proofs.Lists.{either, here, in_part, later, no_element, only}

-- two of these rules that overlap, in order
pub record IsPair (cs : List CandidateNode) (p : PairNode) : Type 0 where
  pub first_in : Contains cs p.first
  pub second_in : Contains cs p.second
  pub meet : overlap p.first p.second ≡ true
  pub in_order : p.first.number < p.second.number

is_pair : (cs : List CandidateNode) (a b : CandidateNode) (p : PairNode) → Contains cs a → Contains cs b → a.number < b.number → Contains (pair a b) p → IsPair cs p
is_pair cs a b p in_a in_b order h =
    let is = only_if (overlap a b) (record { first = a; second = b }) p h in
    subst (IsPair cs) is.1 (record { first_in = in_a; second_in = in_b; meet = is.0; in_order = order })

module _ (all : List CandidateNode) where
  before : (earlier : List CandidateNode) (b : CandidateNode) → ((a : CandidateNode) → Contains earlier a → Contains all a × (a.number < b.number)) →
      Contains all b → (p : PairNode) → Contains (pairs_before earlier b) p → IsPair all p
  before earlier b are in_b p h =
      let at = in_part (λ a. pair a b) earlier p h in let a = are at.0 at.1 in is_pair all at.0 b p a.0 in_b a.1 at.2

  after : (earlier cs : List CandidateNode) →
      ((a : CandidateNode) → Contains earlier a → Contains all a × ((c : CandidateNode) → Contains cs c → a.number < c.number)) →
      ((c : CandidateNode) → Contains cs c → Contains all c) → Increase cs → (p : PairNode) → Contains (pairs_after earlier cs) p → IsPair all p
  after earlier [] are inside up p h = absurd (no_element p h)
  after earlier (b ∷ bs) are inside up p h =
      either (before earlier b (λ a in_a. ((are a in_a).0, (are a in_a).1 b (here b bs))) (inside b (here b bs)) p)
      (after (earlier ++ b ∷ []) bs
      (λ a in_a.
      either (λ old. ((are a old).0, λ c in_c. (are a old).1 c (later b bs c in_c)))
      (λ new. let same = only b a new in
      (subst (λ x. Contains all x) same (inside b (here b bs)), λ c in_c. subst (λ (x : CandidateNode). x.number < c.number) same (up.0 c in_c)))
      (Contains-append_cases earlier (b ∷ []) a in_a))
      (λ c in_c. inside c (later b bs c in_c)) up.1 p)
      (Contains-append_cases (pairs_before earlier b) (pairs_after (earlier ++ b ∷ []) bs) p h)

pub are_pairs : (cs : List CandidateNode) → Increase cs → (p : PairNode) → Contains (pairs cs) p → IsPair cs p
are_pairs cs up p h = after cs [] cs (λ a none. absurd (no_element a none)) (λ c in_c. in_c) up p h
