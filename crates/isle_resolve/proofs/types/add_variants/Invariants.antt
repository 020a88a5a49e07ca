use Rattle.std.proofs.Common.{◌≡◌, ◌++◌, drop, map}
use Rattle.std.specs.List.{flat_map}
use Rattle.isle_ast.specs.TreeView.{variant_of}
use Rattle.isle_ast_names.specs.TreeView.{name_of}
use Rattle.isle_resolve.specs.EventView.{events_of}
use Rattle.isle_resolve.specs.Events.{variant_events}
use Rattle.isle_resolve.proofs.types.add_variants.Given as goal

abbrev pub invariant-loop-variant : goal.invariant-loop-variant
invariant-loop-variant l =
    events_of l.found.items ++ flat_map (variant_events (name_of l.owner)) (map variant_of (drop l.variant-index l.variants))
    ≡ events_of l.fn.found.items ++ flat_map (variant_events (name_of l.owner)) (map variant_of l.variants)
