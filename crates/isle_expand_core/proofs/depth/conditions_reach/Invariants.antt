use Rattle.std.proofs.Common.{◌≡◌, drop, map}
use Rattle.isle_ast_rules.specs.TreeView.{conditions_of}
use Rattle.isle_expand_core.specs.Depth.{conditions_reach}
use Rattle.isle_expand_core.specs.Views.{begun_of}
use Rattle.isle_expand_core.proofs.depth.conditions_reach.Given as goal

abbrev pub invariant-loop-condition : goal.invariant-loop-condition
invariant-loop-condition l =
    conditions_reach (conditions_of (drop l.condition-index l.conditions)) l.deepest (map begun_of l.templates) l.reaches
    ≡ conditions_reach (conditions_of l.conditions) l.at_least (map begun_of l.templates) l.reaches
