use Rattle.std.proofs.Common.{◌≡◌, ◌++◌, drop, map}
use Rattle.isle_ast_names.specs.TreeView.{names_of}
use Rattle.isle_resolve.specs.Event.{occurs}
use Rattle.isle_resolve.specs.EventView.{events_of}
use Rattle.isle_resolve.specs.declared.event.Role.TheVariants as roles
use Rattle.isle_resolve.proofs.rules.add_parameters.Given as goal

abbrev pub invariant-loop-parameter : goal.invariant-loop-parameter
invariant-loop-parameter l =
    events_of l.found.items ++ map (occurs roles.Parameter) (names_of (drop l.parameter-index l.parameters))
    ≡ events_of l.fn.found.items ++ map (occurs roles.Parameter) (names_of l.parameters)
