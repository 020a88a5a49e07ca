-- Rules that are compared.
use Rattle.std.specs.Prelude.{◌≡◌, ℕ, [], ◌∷◌, true, int_lt}
use Rattle.isle_check_rules.specs.TypedRules.{TypedRuleNode}
use Rattle.isle_check_overlaps.specs.Candidates.{CandidateNode, candidate_of}
use Rattle.isle_check_matchings.specs.Asks.{TermsNode}
use Rattle.isle_check_matchings.specs.Matchings.{matching}
use Rattle.isle_check_laws.specs.Valuations.{Valuation, Satisfies, HaveCommon}

-- a rule is compared with others as this
abbrev pub IsCompared : TermsNode → TypedRuleNode → CandidateNode → Type 0
IsCompared k r c = (number : ℕ) × (candidate_of number (matching k r) ≡ c ∷ [])

-- two rules are of one term and of one priority, and some valuation satisfies the constraints of both
pub record Meet (a b : CandidateNode) : Type 0 where
  pub prio : a.prio ≡ b.prio
  pub term : a.term ≡ b.term
  pub common : HaveCommon a.constraints b.constraints

-- a rule is of a higher priority than one of its term, neither has equal places without a constraint, and each valuation that satisfies the other's
-- constraints satisfies its own
pub record Covers (high low : CandidateNode) : Type 0 where
  pub prio : int_lt low.prio high.prio ≡ true
  pub term : high.term ≡ low.term
  pub high_plain : high.is_plain ≡ true
  pub low_plain : low.is_plain ≡ true
  pub all : (values : Valuation) → Satisfies values low.constraints → Satisfies values high.constraints
