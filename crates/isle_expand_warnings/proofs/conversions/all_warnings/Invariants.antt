use Rattle.std.proofs.Common.{◌≡◌, ◌++◌, drop, map}
use Rattle.std.specs.List.{flat_map}
use Rattle.isle_ast.specs.TreeView.{definitions_of}
use Rattle.isle_expand_warnings.specs.Warnings.{definition_warnings, risk_view, warnings_of}
use Rattle.isle_expand_warnings.proofs.conversions.all_warnings.Given as goal

abbrev pub invariant-loop-def : goal.invariant-loop-def
invariant-loop-def l =
    warnings_of l.found.items ++ flat_map (definition_warnings (definitions_of l.defs) (map risk_view l.risks)) (definitions_of (drop l.def-index l.defs))
    ≡ flat_map (definition_warnings (definitions_of l.defs) (map risk_view l.risks)) (definitions_of l.defs)
