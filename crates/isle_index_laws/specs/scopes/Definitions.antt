-- The definition that the index finds of a variable.
use Rattle.std.specs.Prelude.{◌≡◌, List, Some, Contains, length, true}
use Rattle.isle_ast_names.specs.Tree.{Name}
use Rattle.isle_resolve.specs.Event.{reads}
use Rattle.isle_resolve.specs.Names.{NameNode, meaning}
use Rattle.isle_resolve.specs.Scopes.{SeenNode}
use Rattle.isle_index.specs.declared.occurrences.Occurrence.{Occurrence}

-- one of the events reads this variable, and the index knows it there by this name
abbrev pub IsKnownAs : (read : Name) → NameNode → List SeenNode → Type 0
IsKnownAs read name ss =
    (s : SeenNode) × Contains ss s × (s.event ≡ reads read) × (meaning s.event s.binder ≡ Some name)

-- the place of a variable, as its definition
abbrev pub definition_at : Name → Occurrence
definition_at n = record { pos = n.pos; len = length n.text; is_definition = true }
