-- The rules that are compared, by their numbers.
use Rattle.std.proofs.Common.{◌≡◌, ◌⊎◌, inl, inr, ◌<◌, ◌≤◌, ◌+◌, ◌==◌, ℕ, suc, List, [], ◌∷◌, ◌++◌, Bool, true, false, ◌&&◌, not, Some, Contains, refl, ap, sym, ◌∙◌, subst, length, arith, if◌then◌else◌}
use Rattle.std.proofs.lemmas.List.Elements.{Contains-append_cases}
use Rattle.std.specs.List.{slice_get}
use Rattle.isle_check_places.specs.Settling.{SettledNode, settled, unequal, endless}
use Rattle.isle_check_overlaps.specs.Candidates.{CandidateNode, candidate, candidate_by, candidate_of, candidates}
use Rattle.isle_check_overlaps.specs.Matchings.{MatchingNode}
use Rattle.isle_check_laws.proofs.Lists.{either, first_or_later, no_element, only}

-- a rule is compared as this
pub record IsMade (number : ℕ) (m : MatchingNode) (c : CandidateNode) : Type 0 where
  pub is : candidate_of number m ≡ c ∷ []
  pub number_is : c.number ≡ number
  pub pos_is : c.pos ≡ m.pos

-- or it is not compared
abbrev OneOrNone : (number : ℕ) → MatchingNode → List CandidateNode → Type 0
OneOrNone number m cs = (cs ≡ []) ⊎ ((c : CandidateNode) × (cs ≡ c ∷ []) × (c.number ≡ number) × (c.pos ≡ m.pos))

by_settled : (number : ℕ) (m : MatchingNode) (s : SettledNode) → OneOrNone number m (candidate_by number m s)
by_settled number m (settled cs es) = inr (candidate number m cs es, refl, refl, refl)
by_settled number m unequal = inl refl
by_settled number m endless = inl refl

by_test : (number : ℕ) (m : MatchingNode) (b : Bool) → OneOrNone number m (if b then candidate_by number m m.settled else [])
by_test number m true = by_settled number m m.settled
by_test number m false = inl refl

one_or_none : (number : ℕ) (m : MatchingNode) → OneOrNone number m (candidate_of number m)
one_or_none number m = by_test number m (length m.clashes == 0 && not m.is_multi)

pub made : (number : ℕ) (m : MatchingNode) (c : CandidateNode) → Contains (candidate_of number m) c → IsMade number m c
made number m c among =
    either (λ none. absurd (no_element c (subst (λ cs. Contains cs c) none among)))
    (λ one. let same = only one.0 c (subst (λ cs. Contains cs c) one.1 among) in
    subst (IsMade number m) same (record { is = one.1; number_is = one.2; pos_is = one.3 }))
    (one_or_none number m)

-- one of these rules, of which the first has this number, is compared as this
pub record IsAmong (number : ℕ) (ms : List MatchingNode) (c : CandidateNode) : Type 0 where
  pub index : ℕ
  pub matching : MatchingNode
  pub at : slice_get ms index ≡ Some matching
  pub within : index < length ms
  pub made : IsMade (number + index) matching c

among_first : (number : ℕ) (m : MatchingNode) (ms : List MatchingNode) (c : CandidateNode) → IsMade number m c → IsAmong number (m ∷ ms) c
among_first number m ms c is =
    let n : number ≡ number + 0 = omega arith in
    record { index = 0; matching = m; at = refl; within = omega arith; made = subst (λ i. IsMade i m c) n is }

among_later : (number : ℕ) (m : MatchingNode) (ms : List MatchingNode) (c : CandidateNode) → IsAmong (suc number) ms c → IsAmong number (m ∷ ms) c
among_later number m ms c is =
    let n : suc number + is.index ≡ number + suc is.index = omega arith in
    record {
      index = suc is.index;
      matching = is.matching;
      at = is.at;
      within = omega (arith, is.within);
      made = subst (λ i. IsMade i is.matching c) n is.made;
    }

pub among : (number : ℕ) (ms : List MatchingNode) (c : CandidateNode) → Contains (candidates number ms) c → IsAmong number ms c
among number [] c inside = absurd (no_element c inside)
among number (m ∷ ms) c inside =
    either (λ first. among_first number m ms c (made number m c first)) (λ more. among_later number m ms c (among (suc number) ms c more))
    (Contains-append_cases (candidate_of number m) (candidates (suc number) ms) c inside)

pub least : (number : ℕ) (ms : List MatchingNode) (c : CandidateNode) → Contains (candidates number ms) c → number ≤ c.number
least number ms c inside = let is = among number ms c inside in omega (arith, is.made.number_is)

pub below : (ms : List MatchingNode) (c : CandidateNode) → Contains (candidates 0 ms) c → c.number < length ms
below ms c inside = let is = among 0 ms c inside in omega (arith, is.made.number_is, is.within)

-- each rule has a lower number than those behind it
abbrev pub Increase : List CandidateNode → Type 0
Increase [] = Unit {0}
Increase (c ∷ cs) = ((d : CandidateNode) → Contains cs d → c.number < d.number) × Increase cs

pub increase : (number : ℕ) (ms : List MatchingNode) → Increase (candidates number ms)
increase number [] = tt
increase number (m ∷ ms) =
    let rest = increase (suc number) ms in
    either (λ none. subst (λ cs. Increase (cs ++ candidates (suc number) ms)) (sym none) rest)
    (λ one. subst (λ cs. Increase (cs ++ candidates (suc number) ms)) (sym one.1)
    (λ d inside. omega (arith, one.2, least (suc number) ms d inside), rest))
    (one_or_none number m)

-- two of one number are one
pub one_rule : (cs : List CandidateNode) → Increase cs → (c d : CandidateNode) → Contains cs c → Contains cs d → c.number ≡ d.number → c ≡ d
one_rule [] up c d in_c in_d same = absurd (no_element c in_c)
one_rule (x ∷ xs) up c d in_c in_d same =
    either (λ first_c. either (λ first_d. sym first_c ∙ first_d)
    (λ more_d. absurd (omega (arith, up.0 d more_d, same, ap (λ (y : CandidateNode). y.number) first_c))) (first_or_later x xs d in_d))
    (λ more_c. either (λ first_d. absurd (omega (arith, up.0 c more_c, same, ap (λ (y : CandidateNode). y.number) first_d)))
    (λ more_d. one_rule xs up.1 c d more_c more_d same) (first_or_later x xs d in_d))
    (first_or_later x xs c in_c)
