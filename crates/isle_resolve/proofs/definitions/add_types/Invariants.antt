use Rattle.std.proofs.Common.{◌≡◌, ◌++◌, drop, map}
use Rattle.isle_ast_names.specs.TreeView.{names_of}
use Rattle.isle_resolve.specs.Event.{uses}
use Rattle.isle_resolve.specs.EventView.{events_of}
use Rattle.isle_resolve.specs.declared.event.Kind.TheVariants as kinds
use Rattle.isle_resolve.proofs.definitions.add_types.Given as goal

abbrev pub invariant-loop-ty : goal.invariant-loop-ty
invariant-loop-ty l =
    events_of l.found.items ++ map (uses kinds.Type) (names_of (drop l.ty-index l.types))
    ≡ events_of l.fn.found.items ++ map (uses kinds.Type) (names_of l.types)
