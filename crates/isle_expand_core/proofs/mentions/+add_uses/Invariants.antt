use Rattle.std.proofs.Common.{◌≡◌, drop}
use Rattle.isle_ast_rules.specs.TreeView.{pattern_list_of, patterns_of}
use Rattle.isle_expand_core.specs.Collected.{list_collected}
use Rattle.isle_expand_core.specs.Views.{uses_of}
use Rattle.isle_expand_core.proofs.mentions.+add_uses.Given as goal

abbrev pub invariant-add_list_uses-loop-pattern : goal.invariant-add_list_uses-loop-pattern
invariant-add_list_uses-loop-pattern l =
    list_collected (pattern_list_of (patterns_of (drop l.pattern-index l.pattern-items))) (uses_of l.found.items)
    ≡ list_collected (pattern_list_of (patterns_of l.pattern-items)) (uses_of l.fn.found.items)
