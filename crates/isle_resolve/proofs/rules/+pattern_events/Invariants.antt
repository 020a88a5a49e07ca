use Rattle.std.proofs.Common.{◌≡◌, ◌++◌, drop}
use Rattle.isle_ast_rules.specs.TreeView.{pattern_list_of, patterns_of}
use Rattle.isle_resolve.specs.EventView.{events_of}
use Rattle.isle_resolve.specs.Events.{pattern_list_events}
use Rattle.isle_resolve.proofs.rules.+pattern_events.Given as goal

abbrev pub invariant-add_patterns-loop-pattern : goal.invariant-add_patterns-loop-pattern
invariant-add_patterns-loop-pattern l =
    events_of l.found.items ++ pattern_list_events l.role (pattern_list_of (patterns_of (drop l.pattern-index l.pattern-items)))
    ≡ events_of l.fn.found.items ++ pattern_list_events l.role (pattern_list_of (patterns_of l.pattern-items))
