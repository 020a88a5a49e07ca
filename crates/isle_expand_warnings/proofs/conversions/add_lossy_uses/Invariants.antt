use Rattle.std.proofs.Common.{◌≡◌, ◌++◌, drop, map}
use Rattle.isle_ast.specs.TreeView.{definitions_of}
use Rattle.isle_expand_warnings.specs.Placed.{all_placed}
use Rattle.isle_expand_warnings.specs.Warnings.{risk_view, use_warnings, warnings_of}
use Rattle.isle_expand_warnings.proofs.conversions.add_lossy_uses.Given as goal

abbrev pub invariant-loop-one : goal.invariant-loop-one
invariant-loop-one l =
    warnings_of l.found.items ++ use_warnings (definitions_of l.defs) (map risk_view l.risks) (all_placed (drop l.one-index l.placed))
    ≡ warnings_of l.fn.found.items ++ use_warnings (definitions_of l.defs) (map risk_view l.risks) (all_placed l.placed)
