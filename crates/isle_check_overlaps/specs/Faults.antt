-- Rules that match nothing, overlap, or are hidden.
use Rattle.std.specs.Prelude.{ℕ, ◌-◌, List, [], ◌∷◌, ◌++◌, ◌==◌, Bool, true, false, ◌&&◌, not, Option, length, map, take, codes, if◌then◌else◌}
use Rattle.std.specs.Fmt.{signed_decimal}
use Rattle.std.specs.List.{flat_map}
use Rattle.isle_base_source.specs.declared.pos.Pos.{Pos}
use Rattle.isle_check_places.specs.Places.{ConstraintNode, of_variant, of_bool, of_int, of_constant, present}
use Rattle.isle_check_places.specs.Clashes.{ClashNode}
use Rattle.isle_check_places.specs.Settling.{SettledNode, settled, unequal, endless}
use Rattle.isle_check_environment.specs.signatures.Signatures.{TermNode}
use Rattle.isle_check_places.specs.values.Values.{ValueNode, value}
use Rattle.isle_check_overlaps.specs.Matchings.{MatchingNode}
use Rattle.isle_check_overlaps.specs.Candidates.{CandidateNode, candidates, hides, hides_with_equals}
use Rattle.isle_check_overlaps.specs.Stars.{StarNode, PairNode, pairs, stars}

-- a rule that overlaps with another one, and the value that both match
pub record OtherNode : Type 0 where
  pub pos : Pos
  pub value : ValueNode

-- a place would have two constraints that differ; equal places would; a value would be a part of itself; a rule overlaps with others; a rule
-- hides others; a rule hides others that ask for equal values. Of the others, so many are left out
pub data KindNode : Type 0 where
  two_constraints : (first second : List ℕ) → KindNode
  unequal_constraints : KindNode
  part_of_itself : KindNode
  overlaps : (others : List OtherNode) → (left_out : ℕ) → KindNode
  shadows : (others : List Pos) → (left_out : ℕ) → KindNode
  shadows_with_equals : (others : List Pos) → (left_out : ℕ) → KindNode

pub record FaultNode : Type 0 where
  pub kind : KindNode
  pub pos : Pos

abbrev pub fault : KindNode → Pos → FaultNode
fault kind pos = record { kind = kind; pos = pos }

-- a constraint as it is written
abbrev pub shown : ConstraintNode → List ℕ
shown (of_variant name _) = name
shown (of_bool true) = codes "true"
shown (of_bool false) = codes "false"
shown (of_int val) = signed_decimal val
shown (of_constant name) = codes "$" ++ name
shown present = codes "Some"

abbrev pub of_clash : Pos → ClashNode → FaultNode
of_clash pos c = fault (two_constraints (shown c.first) (shown c.second)) pos

abbrev pub of_settled : Pos → SettledNode → List FaultNode
of_settled pos (settled _ _) = []
of_settled pos unequal = fault unequal_constraints pos ∷ []
of_settled pos endless = []

-- a rule that matches nothing
abbrev pub unreachable : MatchingNode → List FaultNode
unreachable m = map (of_clash m.pos) m.clashes ++ of_settled m.pos m.settled

abbrev pub unreachable_rules : List MatchingNode → List FaultNode
unreachable_rules ms = flat_map unreachable ms

abbrev pub endless_by : Pos → SettledNode → List FaultNode
endless_by pos (settled _ _) = []
endless_by pos unequal = []
endless_by pos endless = fault part_of_itself pos ∷ []

-- rules that would match a value that is a part of itself
abbrev pub endless_rules : List MatchingNode → List FaultNode
endless_rules ms = flat_map (λ m. endless_by m.pos m.settled) ms

-- how many of the others are told
abbrev pub most_told : ℕ
most_told = 10

-- a rule matches whatever satisfies its constraints
abbrev pub is_exact : CandidateNode → Bool
is_exact c = c.is_plain && not c.has_several

-- a pattern says nothing of values that must be equal, nor that there is one of several answers
abbrev pub sure_if : (are_exact : Bool) → ValueNode → ValueNode
sure_if are_exact v = record { text = v.text; is_sure = v.is_sure && are_exact }

abbrev pub other : (terms : List ℕ → Option TermNode) → CandidateNode → CandidateNode → OtherNode
other terms c d =
    record { pos = d.pos; value = sure_if (is_exact c && is_exact d) (value terms c.term c.constraints d.constraints) }

abbrev pub star_of : (terms : List ℕ → Option TermNode) → CandidateNode → (others : List CandidateNode) → FaultNode
star_of terms c others = fault (overlaps (map (other terms c) (take most_told others)) (length others - most_told)) c.pos

abbrev pub star_at : (terms : List ℕ → Option TermNode) → CandidateNode → StarNode → List FaultNode
star_at terms c s = if s.center == c.number then star_of terms c s.others ∷ [] else []

abbrev pub if_hidden : (hiding : CandidateNode → CandidateNode → Bool) → CandidateNode → CandidateNode → List Pos
if_hidden hiding high low = if hiding high low then low.pos ∷ [] else []

-- those of these rules that a rule hides
abbrev pub hidden_by : (hiding : CandidateNode → CandidateNode → Bool) → CandidateNode → List CandidateNode → List Pos
hidden_by hiding high cs = flat_map (if_hidden hiding high) cs

abbrev pub shadow_at : (kind : List Pos → ℕ → KindNode) → CandidateNode → (hidden : List Pos) → List FaultNode
shadow_at kind c [] = []
shadow_at kind c (p ∷ ps) = fault (kind (take most_told (p ∷ ps)) (length (p ∷ ps) - most_told)) c.pos ∷ []

-- what is told of one rule
abbrev pub met_at : (terms : List ℕ → Option TermNode) → List StarNode → List CandidateNode → CandidateNode → List FaultNode
met_at terms ss cs c = flat_map (star_at terms c) ss ++ shadow_at shadows c (hidden_by hides c cs)

abbrev pub meetings_by : (terms : List ℕ → Option TermNode) → List StarNode → List CandidateNode → List FaultNode
meetings_by terms ss cs = flat_map (met_at terms ss cs) cs

-- rules that hide others that ask for equal values
abbrev pub equal_shadow_at : List CandidateNode → CandidateNode → List FaultNode
equal_shadow_at cs c = shadow_at shadows_with_equals c (hidden_by hides_with_equals c cs)

abbrev pub equal_shadows : List CandidateNode → List FaultNode
equal_shadows cs = flat_map (equal_shadow_at cs) cs

abbrev pub stars_of : (count : ℕ) → List PairNode → List StarNode
stars_of count ps = stars (length ps) count ps

-- the rules that overlap or hide others, in order, among so many rules
abbrev pub meetings : (terms : List ℕ → Option TermNode) → (count : ℕ) → List CandidateNode → List FaultNode
meetings terms count cs = meetings_by terms (stars_of count (pairs cs)) cs

-- the errors of rules, and the warnings
pub record ComparisonNode : Type 0 where
  pub faults : List FaultNode
  pub warnings : List FaultNode

abbrev pub comparison_of : (terms : List ℕ → Option TermNode) → List MatchingNode → ComparisonNode
comparison_of terms ms =
    record {
      faults = unreachable_rules ms ++ meetings terms (length ms) (candidates 0 ms);
      warnings = endless_rules ms ++ equal_shadows (candidates 0 ms);
    }
