-- The rules that are compared with one another.
use Rattle.std.specs.Prelude.{ℕ, ℤ, suc, List, [], ◌∷◌, ◌++◌, ◌==◌, Bool, ◌&&◌, not, length, int_lt, if◌then◌else◌}
use Rattle.std.specs.Ordering.{int_eq}
use Rattle.std.specs.Str.{bytes_eq}
use Rattle.isle_base_source.specs.declared.pos.Pos.{Pos}
use Rattle.isle_check_places.specs.Places.{ConstrainedNode}
use Rattle.isle_check_places.specs.Comparing.{apart, within}
use Rattle.isle_check_places.specs.Following.{all_follow}
use Rattle.isle_check_places.specs.Settling.{EqualityNode, SettledNode, settled, unequal, endless}
use Rattle.isle_check_overlaps.specs.Matchings.{MatchingNode}

-- a rule: its number among the rules of the program, what it matches, whether it has no equal places without a constraint, and whether it looks
-- at each of several answers
pub record CandidateNode : Type 0 where
  pub number : ℕ
  pub term : List ℕ
  pub prio : ℤ
  pub pos : Pos
  pub constraints : List ConstrainedNode
  pub equal : List EqualityNode
  pub is_plain : Bool
  pub has_several : Bool

abbrev pub candidate : (number : ℕ) → MatchingNode → List ConstrainedNode → List EqualityNode → CandidateNode
candidate number m cs es =
    record {
      number = number;
      term = m.term;
      prio = m.prio;
      pos = m.pos;
      constraints = cs;
      equal = es;
      is_plain = length es == 0;
      has_several = m.has_several;
    }

abbrev pub candidate_by : (number : ℕ) → MatchingNode → SettledNode → List CandidateNode
candidate_by number m (settled cs es) = candidate number m cs es ∷ []
candidate_by number m unequal = []
candidate_by number m endless = []

-- a rule of a multi term is not compared, nor one that cannot match
abbrev pub candidate_of : (number : ℕ) → MatchingNode → List CandidateNode
candidate_of number m =
    if length m.clashes == 0 && not m.is_multi then candidate_by number m m.settled else []

-- of rules, of which the first has this number
abbrev pub candidates : (number : ℕ) → List MatchingNode → List CandidateNode
candidates number [] = []
candidates number (m ∷ ms) = candidate_of number m ++ candidates (suc number) ms

-- rules of one term and one priority overlap unless they are apart
abbrev pub overlap : CandidateNode → CandidateNode → Bool
overlap a b = int_eq a.prio b.prio && (bytes_eq a.term b.term && not (apart a.constraints b.constraints))

-- a rule is of a higher priority than one of its term, and another condition is met
abbrev pub comes_first_and : (condition : Bool) → (high low : CandidateNode) → Bool
comes_first_and condition high low = int_lt low.prio high.prio && (bytes_eq high.term low.term && condition)

-- a rule hides one of a lower priority that matches nothing that the first does not match
abbrev pub hides : (high low : CandidateNode) → Bool
hides high low = comes_first_and (high.is_plain && (low.is_plain && within high.constraints low.constraints)) high low

-- and so it may hide one with equal places: the constraints and the equal places of the first are those of the other one, or follow from these
abbrev pub hides_with_equals : (high low : CandidateNode) → Bool
hides_with_equals high low =
    comes_first_and (not low.is_plain && (not high.has_several && (within high.constraints low.constraints && all_follow high.equal low.equal))) high low
