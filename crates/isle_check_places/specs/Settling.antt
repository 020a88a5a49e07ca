-- Equal places have equal constraints and equal parts.
use Rattle.std.specs.Prelude.{ℕ, zero, suc, List, [], ◌∷◌, ◌++◌, Bool, true, false, Option, None, Some, length, nat_lt, if◌then◌else◌}
use Rattle.isle_check_places.specs.Places.{Place, StepNode, field, content, step_on, same_place, ConstraintNode, of_variant, of_bool, of_int, of_constant, present, same_constraint, ConstrainedNode}

abbrev pub constrained : Place → ConstraintNode → ConstrainedNode
constrained at c = record { at = at; constraint = c }

-- the first constraint of a place
abbrev pub constraint_at : List ConstrainedNode → Place → Option ConstraintNode
constraint_at [] at = None
constraint_at (c ∷ cs) at = if same_place c.at at then Some c.constraint else constraint_at cs at

-- two places that are equal
pub record EqualityNode : Type 0 where
  pub left : Place
  pub right : Place

abbrev pub equality : Place → Place → EqualityNode
equality left right = record { left = left; right = right }

abbrev pub equal_part : EqualityNode → StepNode → EqualityNode
equal_part e step = equality (step_on e.left step) (step_on e.right step)

-- the first so many fields of equal places
abbrev pub equal_fields : EqualityNode → (variant : List ℕ) → (count : ℕ) → List EqualityNode
equal_fields e v zero = []
equal_fields e v (suc n) = equal_fields e v n ++ equal_part e (field v n) ∷ []

abbrev pub equal_parts : EqualityNode → ConstraintNode → List EqualityNode
equal_parts e (of_variant v n) = equal_fields e v n
equal_parts e (of_bool _) = []
equal_parts e (of_int _) = []
equal_parts e (of_constant _) = []
equal_parts e present = equal_part e content ∷ []

-- the constraints, the equalities that are left, whether more can be made of them, and whether two constraints of equal places differ
pub record SweepNode : Type 0 where
  pub constraints : List ConstrainedNode
  pub equal : List EqualityNode
  pub is_opened : Bool
  pub clashes : Bool

-- equal places where neither is constrained stay
abbrev pub kept : SweepNode → EqualityNode → SweepNode
kept s e = record { constraints = s.constraints; equal = s.equal ++ e ∷ []; is_opened = s.is_opened; clashes = s.clashes }

abbrev pub with_constraint : SweepNode → Place → ConstraintNode → SweepNode
with_constraint s at c =
    record { constraints = s.constraints ++ constrained at c ∷ []; equal = s.equal; is_opened = s.is_opened; clashes = s.clashes }

-- equal places with one constraint have equal parts in their place
abbrev pub opened : SweepNode → EqualityNode → ConstraintNode → SweepNode
opened s e c =
    record { constraints = s.constraints; equal = s.equal ++ equal_parts e c; is_opened = true; clashes = s.clashes }

abbrev pub clashing : SweepNode → SweepNode
clashing s = record { constraints = s.constraints; equal = s.equal; is_opened = s.is_opened; clashes = true }

abbrev pub swept_by : (left right : Option ConstraintNode) → SweepNode → EqualityNode → SweepNode
swept_by None None s e = kept s e
swept_by (Some c) None s e = opened (with_constraint s e.right c) e c
swept_by None (Some d) s e = opened (with_constraint s e.left d) e d
swept_by (Some c) (Some d) s e = if same_constraint c d then opened s e c else clashing s

abbrev pub swept : SweepNode → EqualityNode → SweepNode
swept s e =
    if same_place e.left e.right then s
    else swept_by (constraint_at s.constraints e.left) (constraint_at s.constraints e.right) s e

abbrev pub sweep : SweepNode → List EqualityNode → SweepNode
sweep s [] = s
sweep s (e ∷ es) = sweep (swept s e) es

-- the constraints of all places, and the equalities of places that are not constrained; or constraints of equal places differ; or equal
-- parts are not at an end within the bound below
pub data SettledNode : Type 0 where
  settled : List ConstrainedNode → List EqualityNode → SettledNode
  unequal : SettledNode
  endless : SettledNode

-- How often equal places are gone over. Where a value would be a part of itself, equal parts have no end, and exceed this. But so can a rule whose
-- equal parts lie more than 64 deep in values: it counts as endless, too. Such a rule is told in a warning, and not compared.
abbrev pub most_sweeps : ℕ
most_sweeps = 64

-- how many equal places there may be after each time if more can be made of them. They may double again and again
abbrev pub most_equal : ℕ
most_equal = 1024

abbrev pub begun : List ConstrainedNode → SweepNode
begun cs = record { constraints = cs; equal = []; is_opened = false; clashes = false }

-- what follows a sweep
abbrev pub after : (next : SettledNode) → SweepNode → SettledNode
after next s =
    if s.clashes then unequal
    else if s.is_opened then (if nat_lt most_equal (length s.equal) then endless else next)
    else settled s.constraints s.equal

abbrev pub settle : (sweeps : ℕ) → List ConstrainedNode → List EqualityNode → SettledNode
settle zero cs es = endless
settle (suc n) cs es =
    after (settle n (sweep (begun cs) es).constraints (sweep (begun cs) es).equal) (sweep (begun cs) es)
