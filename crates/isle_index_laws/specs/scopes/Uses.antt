-- Uses of variables among events that are numbered, with their binders.
use Rattle.std.specs.Prelude.{◌≡◌, List, Option, None, Some, Contains}
use Rattle.isle_ast_names.specs.Tree.{Name}
use Rattle.isle_resolve.specs.declared.event.Role.{Role}
use Rattle.isle_resolve.specs.Event.{EventNode, defines, uses, defines_variant, occurs, binds, reads, closes, ends}
use Rattle.isle_resolve.specs.Scopes.{SeenNode}

-- the variable that an event is about, if it is about one
abbrev pub variable_of : EventNode → Option Name
variable_of (defines _ _) = None
variable_of (uses _ _) = None
variable_of (defines_variant _ _) = None
variable_of (occurs _ name) = Some name
variable_of (binds name) = Some name
variable_of (reads name) = Some name
variable_of closes = None
variable_of ends = None

-- one of the events is about this variable, and has no binder
abbrev pub HasNoBinder : (name : Name) → List SeenNode → Type 0
HasNoBinder name ss = (s : SeenNode) × Contains ss s × (variable_of s.event ≡ Some name) × (s.binder ≡ None)

-- one of the events reads this variable, and the event that binds it there is about that one
abbrev pub HasBinder : (name binder : Name) → List SeenNode → Type 0
HasBinder name binder ss =
    (s : SeenNode) × Contains ss s × (s.event ≡ reads name)
    × (t : SeenNode) × Contains ss t × (s.binder ≡ Some t.number) × (variable_of t.event ≡ Some binder)

-- the same of a variable in a pattern, or of a parameter
abbrev pub HasFirst : (name binder : Name) → List SeenNode → Type 0
HasFirst name binder ss =
    (s : SeenNode) × Contains ss s × (role : Role) × (s.event ≡ occurs role name)
    × (t : SeenNode) × Contains ss t × (s.binder ≡ Some t.number) × (variable_of t.event ≡ Some binder)
