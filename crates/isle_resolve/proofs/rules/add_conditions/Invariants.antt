use Rattle.std.proofs.Common.{◌≡◌, ◌++◌, drop}
use Rattle.std.specs.List.{flat_map}
use Rattle.isle_ast_rules.specs.TreeView.{conditions_of}
use Rattle.isle_resolve.specs.EventView.{events_of}
use Rattle.isle_resolve.specs.Events.{condition_events}
use Rattle.isle_resolve.proofs.rules.add_conditions.Given as goal

abbrev pub invariant-loop-condition : goal.invariant-loop-condition
invariant-loop-condition l =
    events_of l.found.items ++ flat_map condition_events (conditions_of (drop l.condition-index l.conditions))
    ≡ events_of l.fn.found.items ++ flat_map condition_events (conditions_of l.conditions)
