use Rattle.std.proofs.Common.{◌≡◌, ◌++◌, drop, map}
use Rattle.std.specs.List.{filter_map}
use Rattle.isle_ast.specs.TreeView.{definitions_of}
use Rattle.isle_expand_warnings.specs.Warnings.{risk_in, risk_view, risks}
use Rattle.isle_expand_warnings.proofs.conversions.risks.Given as goal

abbrev pub invariant-loop-def : goal.invariant-loop-def
invariant-loop-def l =
    map risk_view l.found.items ++ filter_map (risk_in (definitions_of l.defs)) (definitions_of (drop l.def-index l.defs)) ≡ risks (definitions_of l.defs)
