use Rattle.std.proofs.Common.{◌≡◌, drop}
use Rattle.isle_ast.specs.TreeView.{definitions_of}
use Rattle.isle_ast_names.specs.TreeView.{name_of}
use Rattle.isle_expand_warnings.specs.First.{first}
use Rattle.isle_expand_warnings.specs.Types.{value_type, value_type_in}
use Rattle.isle_expand_warnings.proofs.types.value_type.Given as goal

abbrev pub invariant-loop-def : goal.invariant-loop-def
invariant-loop-def l =
    first (value_type_in (name_of l.term).text) (definitions_of (drop l.def-index l.defs)) ≡ value_type (definitions_of l.defs) (name_of l.term).text
