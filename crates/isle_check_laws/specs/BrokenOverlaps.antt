-- What the errors of rules beside one another say of typed rules. Of the others that are left out it says nothing.
use Rattle.std.specs.Prelude.{◌≡◌, ◌≢◌, ℕ, List, [], ◌∷◌, Some, Contains}
use Rattle.std.specs.List.{All, slice_get}
use Rattle.isle_base_source.specs.declared.pos.Pos.{Pos}
use Rattle.isle_check_places.specs.Places.{ConstraintNode, Place}
use Rattle.isle_check_places.specs.Settling.{constrained, unequal}
use Rattle.isle_check_rules.specs.TypedRules.{TypedRuleNode}
use Rattle.isle_check_overlaps.specs.Candidates.{CandidateNode, candidate_of}
use Rattle.isle_check_overlaps.specs.Faults as kinds
use Rattle.isle_check_overlaps.specs.Faults.{OtherNode, other, shown}
use Rattle.isle_check_matchings.specs.Asks.{TermsNode}
use Rattle.isle_check_matchings.specs.Matchings.{constraints_of, matching}
use Rattle.isle_check_matchings.specs.RuleAsks.{rule_asks}
use Rattle.isle_check_laws.specs.Compared.{Covers, Meet}

-- a rule asks for this constraint of the value at a place
abbrev pub Asks : TermsNode → TypedRuleNode → Place → ConstraintNode → Type 0
Asks k r at c = Contains (constraints_of (rule_asks k r)) (constrained at c)

-- one of these rules, that of this number, is compared with others as this
abbrev pub IsComparedAs : TermsNode → List TypedRuleNode → CandidateNode → Type 0
IsComparedAs k rs c = (r : TypedRuleNode) × (slice_get rs c.number ≡ Some r) × (candidate_of c.number (matching k r) ≡ c ∷ [])

-- what is told is another one of these rules, which has the rule's term and priority, and some valuation satisfies the constraints of both
pub record IsMeeting (k : TermsNode) (rs : List TypedRuleNode) (a : CandidateNode) (told : OtherNode) : Type 0 where
  pub b : CandidateNode
  pub is_compared : IsComparedAs k rs b
  pub is_another : a.number ≢ b.number
  pub meet : Meet a b
  pub is : told ≡ other k.terms a b

-- at this position is one of these rules that has the rule's term and a lower priority; neither has equal places without a constraint, and each
-- valuation that satisfies the constraints of this one satisfies the rule's
pub record IsCovered (k : TermsNode) (rs : List TypedRuleNode) (a : CandidateNode) (told : Pos) : Type 0 where
  pub b : CandidateNode
  pub is_compared : IsComparedAs k rs b
  pub covers : Covers a b
  pub at : told ≡ b.pos

-- by the kind of an error and its position
pub data IsBrokenOverlap (k : TermsNode) (rs : List TypedRuleNode) : kinds.KindNode → Pos → Type 0 where
  -- at a rule: it asks for two constraints of one place, and they differ
  two_constraints : (r : TypedRuleNode) (at : Place) (first second : ConstraintNode) → Contains rs r → Asks k r at first → Asks k r at second →
      first ≢ second → IsBrokenOverlap k rs (kinds.two_constraints (shown first) (shown second)) r.pos
  -- at a rule: places that are equal in it have constraints that differ
  unequal_constraints : (r : TypedRuleNode) → Contains rs r → (matching k r).settled ≡ unequal → IsBrokenOverlap k rs kinds.unequal_constraints r.pos
  -- at a rule: it overlaps with each of the others that are told, and there is one
  overlaps : (a : CandidateNode) (others : List OtherNode) (left_out : ℕ) → IsComparedAs k rs a → others ≢ [] → All (IsMeeting k rs a) others →
      IsBrokenOverlap k rs (kinds.overlaps others left_out) a.pos
  -- at a rule: it hides each of the others that are told, and there is one
  shadows : (a : CandidateNode) (others : List Pos) (left_out : ℕ) → IsComparedAs k rs a → others ≢ [] → All (IsCovered k rs a) others →
      IsBrokenOverlap k rs (kinds.shadows others left_out) a.pos
