use Rattle.std.proofs.Common.{◌≡◌, drop}
use Rattle.isle_ast.specs.TreeView.{definitions_of}
use Rattle.isle_ast_names.specs.TreeView.{name_of}
use Rattle.isle_expand_warnings.specs.First.{first}
use Rattle.isle_expand_warnings.specs.Types.{argument_type, argument_type_in}
use Rattle.isle_expand_warnings.proofs.types.argument_type.Given as goal

abbrev pub invariant-loop-def : goal.invariant-loop-def
invariant-loop-def l =
    first (argument_type_in (name_of l.term).text l.number) (definitions_of (drop l.def-index l.defs)) ≡ argument_type (definitions_of l.defs) (name_of l.term).text l.number
