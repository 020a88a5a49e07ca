use Rattle.std.proofs.Common.{◌≡◌, ◌++◌, drop}
use Rattle.isle_ast_rules.specs.TreeView.{let_list_of, single_lets_of}
use Rattle.isle_resolve.specs.EventView.{events_of}
use Rattle.isle_resolve.specs.Events.{let_ends}
use Rattle.isle_resolve.proofs.rules.add_let_ends.Given as goal

abbrev pub invariant-loop-def : goal.invariant-loop-def
invariant-loop-def l =
    events_of l.found.items ++ let_ends (let_list_of (single_lets_of (drop l._def-index l._def-items)))
    ≡ events_of l.fn.found.items ++ let_ends (let_list_of (single_lets_of l._def-items))
