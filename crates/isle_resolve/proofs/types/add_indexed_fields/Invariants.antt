use Rattle.std.proofs.Common.{◌≡◌, ◌++◌, drop, map}
use Rattle.isle_ast.specs.TreeView.{indexed_field_of}
use Rattle.isle_resolve.specs.Event.{uses}
use Rattle.isle_resolve.specs.EventView.{events_of}
use Rattle.isle_resolve.specs.declared.event.Kind.TheVariants as kinds
use Rattle.isle_resolve.proofs.types.add_indexed_fields.Given as goal

abbrev pub invariant-loop-field : goal.invariant-loop-field
invariant-loop-field l =
    events_of l.found.items ++ map (λ f. uses kinds.Type f.ty) (map indexed_field_of (drop l.field-index l.fields))
    ≡ events_of l.fn.found.items ++ map (λ f. uses kinds.Type f.ty) (map indexed_field_of l.fields)
