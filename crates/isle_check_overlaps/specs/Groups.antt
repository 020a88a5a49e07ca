-- The rules of each term, told apart by what they ask for at one place.
use Rattle.std.specs.Prelude.{◌≡◌, ◌≤◌, ℕ, ◌-◌, List, [], ◌∷◌, ◌++◌, Bool, false, not, Option, None, Some, option_map, length, map, take, drop, if◌then◌else◌}
use Rattle.std.specs.Borrow.{Bor}
use Rattle.std.specs.declared.alloc.Global.{Global}
use Rattle.std.specs.declared.vec.Vec.{Vec}
use Rattle.std.specs.HashMap.{get_by_text}
use Rattle.std.specs.List.{filter, list_any}
use Rattle.std.specs.Str.{bytes_eq}
use Rattle.isle_check_environment.specs.ByText.{ByText}
use Rattle.isle_check_places.specs.Places.{Place, same_place, ConstraintNode, ConstrainedNode}
use Rattle.isle_check_places.specs.Views.{place_of}
use Rattle.isle_check_places.specs.declared.places.Step.{Step}
use Rattle.isle_check_overlaps.specs.declared.groups.Group.{Group}
use Rattle.isle_check_overlaps.specs.declared.groups.Ranked.{Ranked}
use Rattle.isle_check_overlaps.specs.Candidates.{CandidateNode}
use Rattle.isle_check_overlaps.specs.Faults.{shown}
use Rattle.isle_check_overlaps.specs.Views.{candidate_of, candidates_at}

abbrev pub is_of : (term : List ℕ) → CandidateNode → Bool
is_of term c = bytes_eq c.term term

abbrev pub asks_at : Place → List ConstrainedNode → Bool
asks_at at cs = list_any (λ c. same_place c.at at) cs

-- the constraint of a place that has no other one
abbrev pub only_at : Place → List ConstrainedNode → Option ConstraintNode
only_at at [] = None
only_at at (c ∷ cs) = if same_place c.at at then (if asks_at at cs then None else Some c.constraint) else only_at at cs

-- what a rule asks for at a place, as it is written, if it asks for one thing there
abbrev pub asked : (place : Option Place) → CandidateNode → Option (List ℕ)
asked None c = None
asked (Some at) c = option_map shown (only_at at c.constraints)

abbrev pub is_other : (text : List ℕ) → Option (List ℕ) → Bool
is_other text None = false
is_other text (Some t) = not (bytes_eq t text)

-- a rule asks for something else than this
abbrev pub asks_other : (place : Option Place) → (text : List ℕ) → CandidateNode → Bool
asks_other place text c = is_other text (asked place c)

-- a rule that asks for something, and how many that are free stand before it
pub record RankedNode : Type 0 where
  pub candidate : CandidateNode
  pub before : ℕ

abbrev pub between : (from to : ℕ) → List CandidateNode → List CandidateNode
between from to cs = take (to - from) (drop from cs)

-- these rules and those that are free, of which so many are passed, in order
abbrev pub mixed : (passed : ℕ) → List RankedNode → (free : List CandidateNode) → List CandidateNode
mixed passed [] free = drop passed free
mixed passed (r ∷ rs) free = between passed r.before free ++ r.candidate ∷ mixed r.before rs free

abbrev pub ranked_of : Ranked → RankedNode
ranked_of r = record { candidate = candidate_of r.candidate.now; before = r.before }

abbrev pub all_ranked_of : List Ranked → List RankedNode
all_ranked_of rs = map ranked_of rs

abbrev pub alike_by : Option (Vec Ranked Global) → List RankedNode
alike_by None = []
alike_by (Some rs) = all_ranked_of rs.items

-- the rules of a group that ask for this
abbrev pub alike : Group → (text : List ℕ) → List RankedNode
alike g text = alike_by (get_by_text g.alike text)

abbrev pub place_by : Option (Bor (Vec Step Global)) → Option Place
place_by place = option_map (λ p. place_of p.now.items) place

abbrev pub near_by : Group → Option (List ℕ) → List CandidateNode
near_by g None = candidates_at g.all.items
near_by g (Some text) = mixed 0 (alike g text) (candidates_at g.free.items)

-- the rules that a rule is compared with
abbrev pub near : Option Group → CandidateNode → List CandidateNode
near None c = []
near (Some g) c = near_by g (asked (place_by g.place) c)

-- each is behind those before it
abbrev pub AreRanked : (passed : ℕ) → List RankedNode → (free : ℕ) → Type 0
AreRanked passed [] free = passed ≤ free
AreRanked passed (r ∷ rs) free = (passed ≤ r.before) × AreRanked r.before rs free

-- a group has these rules: all of them, and for each text those that ask for nothing else
pub record IsGroup (g : Group) (cs : List CandidateNode) : Type 0 where
  pub all : candidates_at g.all.items ≡ cs
  pub near : (text : List ℕ) → mixed 0 (alike g text) (candidates_at g.free.items) ≡ filter (λ c. not (asks_other (place_by g.place) text c)) cs
  pub ranked : (text : List ℕ) → AreRanked 0 (alike g text) (length (candidates_at g.free.items))

abbrev pub HasGroup : Option Group → List CandidateNode → Type 0
HasGroup None cs = cs ≡ []
HasGroup (Some g) cs = IsGroup g cs

-- the map has, for each term, a group of those of these rules that are of it
abbrev pub AreGroups : ByText Group → List CandidateNode → Type 0
AreGroups groups cs = (term : List ℕ) → HasGroup (get_by_text groups term) (filter (is_of term) cs)
