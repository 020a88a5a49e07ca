-- Places and constraints of code, as pure values.
use Rattle.std.specs.Prelude.{List, map}
use Rattle.std.specs.declared.alloc.Global.{Global}
use Rattle.std.specs.declared.vec.Vec.{Vec}
use Rattle.isle_check_places.specs.declared.places.Step.{Step}
use Rattle.isle_check_places.specs.declared.places.Step.TheVariants as steps
use Rattle.isle_check_places.specs.declared.places.Constraint.{Constraint}
use Rattle.isle_check_places.specs.declared.places.Constraint.TheVariants as kinds
use Rattle.isle_check_places.specs.declared.places.Constrained.{Constrained}
use Rattle.isle_check_places.specs.declared.settling.Equality.{Equality}
use Rattle.isle_check_places.specs.declared.settling.Sweep.{Sweep}
use Rattle.isle_check_places.specs.declared.settling.Settled.{Settled}
use Rattle.isle_check_places.specs.declared.settling.Settled.TheVariants as ends
use Rattle.isle_check_places.specs.declared.clashing.Clash.{Clash}
use Rattle.isle_check_places.specs.Places.{StepNode, argument, field, content, part, each, extracted, computed, bool_value, int_value, constant_value, Place, ConstraintNode, of_variant, of_bool, of_int, of_constant, present, ConstrainedNode}
use Rattle.isle_check_places.specs.Settling.{EqualityNode, SettledNode, settled, unequal, endless, SweepNode}
use Rattle.isle_check_places.specs.Clashes.{ClashNode}

abbrev pub step_of : Step → StepNode
step_of (steps.Argument index) = argument index
step_of (steps.Field variant index) = field variant.now index
step_of steps.Content = content
step_of (steps.Part index) = part index
step_of steps.Each = each
step_of (steps.Extracted term) = extracted term.now
step_of (steps.Computed term arguments) = computed term.now arguments
step_of (steps.Bool val ty) = bool_value val ty.now
step_of (steps.Int val ty) = int_value val ty.now
step_of (steps.Const name) = constant_value name.now

abbrev pub place_of : List Step → Place
place_of ss = map step_of ss

abbrev pub constraint_of : Constraint → ConstraintNode
constraint_of (kinds.Variant variant fields) = of_variant variant.now fields
constraint_of (kinds.Bool val) = of_bool val
constraint_of (kinds.Int val) = of_int val
constraint_of (kinds.Const name) = of_constant name.now
constraint_of kinds.Present = present

abbrev pub constrained_of : Constrained → ConstrainedNode
constrained_of c = record { at = place_of c.at.items; constraint = constraint_of c.constraint }

abbrev pub all_constrained_of : List Constrained → List ConstrainedNode
all_constrained_of cs = map constrained_of cs

abbrev pub places_of : List (Vec Step Global) → List Place
places_of ps = map (λ p. place_of p.items) ps

abbrev pub equality_of : Equality → EqualityNode
equality_of e = record { left = place_of e.left.items; right = place_of e.right.items }

abbrev pub all_equalities_of : List Equality → List EqualityNode
all_equalities_of es = map equality_of es

abbrev pub sweep_of : Sweep → SweepNode
sweep_of s =
    record {
      constraints = all_constrained_of s.constraints.items;
      equal = all_equalities_of s.equal.items;
      is_opened = s.is_opened;
      clashes = s.clashes;
    }

abbrev pub settled_of : Settled → SettledNode
settled_of (ends.Settled constraints equal) = settled (all_constrained_of constraints.items) (all_equalities_of equal.items)
settled_of ends.Unequal = unequal
settled_of ends.Endless = endless

abbrev pub clash_of : Clash → ClashNode
clash_of c = record { first = constraint_of c.first; second = constraint_of c.second }

abbrev pub clashes_of : List Clash → List ClashNode
clashes_of cs = map clash_of cs
