-- Rules that are compared, and what is found of them, as pure values.
use Rattle.std.specs.Prelude.{List, map, string_bytes}
use Rattle.std.specs.Borrow.{Bor}
use Rattle.isle_check_places.specs.Views.{all_constrained_of, all_equalities_of, clashes_of, settled_of}
use Rattle.isle_check_overlaps.specs.declared.matching.Matching.{Matching}
use Rattle.isle_check_overlaps.specs.declared.candidates.Candidate.{Candidate}
use Rattle.isle_check_overlaps.specs.declared.stars.Pair.{Pair}
use Rattle.isle_check_overlaps.specs.declared.stars.Star.{Star}
use Rattle.isle_check_places.specs.values.Views.{value_of}
use Rattle.isle_check_overlaps.specs.declared.fault.Fault.{Fault}
use Rattle.isle_check_overlaps.specs.declared.fault.Other.{Other}
use Rattle.isle_check_overlaps.specs.declared.fault.Kind.{Kind}
use Rattle.isle_check_overlaps.specs.declared.fault.Kind.TheVariants as kinds
use Rattle.isle_check_overlaps.specs.declared.fault.Comparison.{Comparison}
use Rattle.isle_check_overlaps.specs.Matchings.{MatchingNode}
use Rattle.isle_check_overlaps.specs.Candidates.{CandidateNode}
use Rattle.isle_check_overlaps.specs.Faults as nodes
use Rattle.isle_check_overlaps.specs.Stars.{PairNode, StarNode}

abbrev pub matching_of : Matching → MatchingNode
matching_of m =
    record {
      term = m.term.now;
      is_multi = m.is_multi;
      has_several = m.has_several;
      prio = m.prio;
      pos = m.pos;
      clashes = clashes_of m.clashes.items;
      settled = settled_of m.settled;
    }

abbrev pub matchings_of : List Matching → List MatchingNode
matchings_of ms = map matching_of ms

abbrev pub candidate_of : Candidate → CandidateNode
candidate_of c =
    record {
      number = c.number;
      term = c.term.now;
      prio = c.prio;
      pos = c.pos;
      constraints = all_constrained_of c.constraints.now.items;
      equal = all_equalities_of c.equal.now.items;
      is_plain = c.is_plain;
      has_several = c.has_several;
    }

abbrev pub candidates_of : List Candidate → List CandidateNode
candidates_of cs = map candidate_of cs

-- those of references
abbrev pub candidates_at : List (Bor Candidate) → List CandidateNode
candidates_at cs = map (λ c. candidate_of c.now) cs

abbrev pub pair_of : Pair → PairNode
pair_of p = record { first = candidate_of p.first.now; second = candidate_of p.second.now }

abbrev pub pairs_of : List Pair → List PairNode
pairs_of ps = map pair_of ps

abbrev pub star_of : Star → StarNode
star_of s = record { center = s.center; others = candidates_at s.others.items }

abbrev pub stars_of : List Star → List StarNode
stars_of ss = map star_of ss

abbrev pub other_of : Other → nodes.OtherNode
other_of o = record { pos = o.pos; value = value_of o.value }

abbrev pub others_of : List Other → List nodes.OtherNode
others_of os = map other_of os

abbrev pub kind_of : Kind → nodes.KindNode
kind_of (kinds.TwoConstraints first second) = nodes.two_constraints (string_bytes first) (string_bytes second)
kind_of kinds.UnequalConstraints = nodes.unequal_constraints
kind_of kinds.PartOfItself = nodes.part_of_itself
kind_of (kinds.Overlaps others left_out) = nodes.overlaps (others_of others.items) left_out
kind_of (kinds.Shadows others left_out) = nodes.shadows others.items left_out
kind_of (kinds.ShadowsWithEquals others left_out) = nodes.shadows_with_equals others.items left_out

abbrev pub fault_of : Fault → nodes.FaultNode
fault_of f = nodes.fault (kind_of f.kind) f.pos

abbrev pub faults_of : List Fault → List nodes.FaultNode
faults_of fs = map fault_of fs

abbrev pub comparison_of : Comparison → nodes.ComparisonNode
comparison_of o = record { faults = faults_of o.faults.items; warnings = faults_of o.warnings.items }
