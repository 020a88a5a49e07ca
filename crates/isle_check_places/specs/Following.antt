-- Equal places that follow from others.
use Rattle.std.specs.Prelude.{List, [], ◌∷◌, ◌++◌, Bool, if◌then◌else◌}
use Rattle.std.specs.List.{list_all}
use Rattle.isle_check_places.specs.Places.{Place, same_place}
use Rattle.isle_check_places.specs.Settling.{EqualityNode}

-- one place stands for another one
pub record JoinNode : Type 0 where
  pub from : Place
  pub to : Place

abbrev pub join : Place → Place → JoinNode
join from to = record { from = from; to = to }

-- the place that stands for a place
abbrev pub stands_for : List JoinNode → Place → Place
stands_for [] at = at
stands_for (j ∷ js) at = stands_for js (if same_place at j.from then j.to else at)

-- behind these: of equal places, what stands for the right one stands for what stands for the left one
abbrev pub joins_after : List JoinNode → List EqualityNode → List JoinNode
joins_after js [] = js
joins_after js (e ∷ es) = joins_after (js ++ join (stands_for js e.left) (stands_for js e.right) ∷ []) es

-- one place stands for both
abbrev pub are_joined : List JoinNode → EqualityNode → Bool
are_joined js e = same_place (stands_for js e.left) (stands_for js e.right)

-- each of these equalities follows from those
abbrev pub all_follow : (es from : List EqualityNode) → Bool
all_follow es from = list_all (are_joined (joins_after [] from)) es
