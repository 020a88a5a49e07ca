use Rattle.std.proofs.Common.{◌≡◌, drop}
use Rattle.std.specs.List.{list_any}
use Rattle.isle_ast.specs.TreeView.{definitions_of}
use Rattle.isle_ast_names.specs.TreeView.{name_of}
use Rattle.isle_expand_core.specs.Definitions.{defines}
use Rattle.isle_expand_core.proofs.declarations.is_defined.Given as goal

abbrev pub invariant-loop-def : goal.invariant-loop-def
invariant-loop-def l =
    list_any (defines (name_of l.term).text) (definitions_of (drop l.def-index l.defs)) ≡ list_any (defines (name_of l.term).text) (definitions_of l.defs)
