use Rattle.std.proofs.Common.{◌≡◌, drop, map}
use Rattle.isle_ast_rules.specs.TreeView.{pattern_list_of, patterns_of}
use Rattle.isle_expand_core.specs.Depth.{list_reach}
use Rattle.isle_expand_core.specs.Views.{begun_of}
use Rattle.isle_expand_core.proofs.depth.+reach.Given as goal

abbrev pub invariant-list_reach-loop-pattern : goal.invariant-list_reach-loop-pattern
invariant-list_reach-loop-pattern l =
    list_reach (pattern_list_of (patterns_of (drop l.pattern-index l.pattern-items))) l.deepest (map begun_of l.templates) l.reaches
    ≡ list_reach (pattern_list_of (patterns_of l.pattern-items)) 0 (map begun_of l.templates) l.reaches
