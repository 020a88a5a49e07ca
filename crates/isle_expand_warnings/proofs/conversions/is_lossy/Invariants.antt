use Rattle.std.proofs.Common.{◌≡◌, drop, map}
use Rattle.std.specs.List.{list_any}
use Rattle.isle_ast.specs.TreeView.{definitions_of}
use Rattle.isle_expand_warnings.specs.Placed.{placed_of}
use Rattle.isle_expand_warnings.specs.Warnings.{is_lossy_by, risk_view}
use Rattle.isle_expand_warnings.proofs.conversions.is_lossy.Given as goal

abbrev pub invariant-loop-risk : goal.invariant-loop-risk
invariant-loop-risk l =
    list_any (is_lossy_by (definitions_of l.defs) (placed_of l.placed)) (map risk_view (drop l.risk-index l.risks))
    ≡ list_any (is_lossy_by (definitions_of l.defs) (placed_of l.placed)) (map risk_view l.risks)
