use Rattle.std.proofs.Common.{take}
use Rattle.std.specs.List.{flat_map}
use Rattle.isle_ast.specs.TreeView.{definitions_of}
use Rattle.isle_check_environment.specs.Names.{Knows}
use Rattle.isle_check_matchings.specs.Infallible.{infallible_name}
use Rattle.isle_check_matchings.proofs.infallible.infallible_extractors.Given as goal

abbrev pub invariant-loop-def : goal.invariant-loop-def
invariant-loop-def l =
    Knows l.names (flat_map infallible_name (definitions_of (take l.def-index l.defs)))
