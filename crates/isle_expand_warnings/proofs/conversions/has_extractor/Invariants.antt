use Rattle.std.proofs.Common.{◌≡◌, drop}
use Rattle.std.specs.List.{list_any}
use Rattle.isle_ast.specs.TreeView.{definitions_of}
use Rattle.isle_ast_names.specs.TreeView.{name_of}
use Rattle.isle_expand_warnings.specs.Warnings.{gives_extractor}
use Rattle.isle_expand_warnings.proofs.conversions.has_extractor.Given as goal

abbrev pub invariant-loop-def : goal.invariant-loop-def
invariant-loop-def l =
    list_any (gives_extractor (name_of l.term).text) (definitions_of (drop l.def-index l.defs))
    ≡ list_any (gives_extractor (name_of l.term).text) (definitions_of l.defs)
