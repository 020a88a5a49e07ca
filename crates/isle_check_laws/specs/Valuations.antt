-- Valuations: what holds of the values at places.
use Rattle.std.specs.Prelude.{◌≡◌, List, [], ◌∷◌, Option, Some}
use Rattle.isle_check_places.specs.Places.{Place, ConstraintNode, ConstrainedNode}

-- the constraint that holds of the value at each place, or none
abbrev pub Valuation : Type 0
Valuation = Place → Option ConstraintNode

-- a constraint holds of the value at its place
abbrev pub Holds : Valuation → ConstrainedNode → Type 0
Holds values c = values c.at ≡ Some c.constraint

-- each of these holds
abbrev pub Satisfies : Valuation → List ConstrainedNode → Type 0
Satisfies values [] = Unit {0}
Satisfies values (c ∷ cs) = Holds values c × Satisfies values cs

-- a valuation satisfies both
abbrev pub HaveCommon : (cs ds : List ConstrainedNode) → Type 0
HaveCommon cs ds = (values : Valuation) × (Satisfies values cs × Satisfies values ds)
