use Rattle.std.proofs.Common.{◌≡◌, ◌++◌, drop}
use Rattle.isle_ast.specs.TreeView.{definitions_of}
use Rattle.isle_resolve.specs.EventView.{events_of}
use Rattle.isle_resolve.specs.Events.{events}
use Rattle.isle_resolve.proofs.definitions.add_events.Given as goal

abbrev pub invariant-loop-def : goal.invariant-loop-def
invariant-loop-def l =
    events_of l.found.items ++ events (definitions_of (drop l.def-index l.defs))
    ≡ events_of l.fn.found.items ++ events (definitions_of l.defs)
