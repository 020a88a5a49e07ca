use Rattle.std.proofs.Common.{◌≡◌, drop}
use Rattle.isle_ast_rules.specs.TreeView.{pattern_list_of, patterns_of}
use Rattle.isle_ast_rules.specs.WritableDeciders.{are_writable_patterns}
use Rattle.isle_ast_rules.proofs.writability.patterns.+writable.Given as goal

abbrev pub invariant-are_writable_patterns-loop-pattern : goal.invariant-are_writable_patterns-loop-pattern
invariant-are_writable_patterns-loop-pattern l =
    are_writable_patterns (pattern_list_of (patterns_of (drop l.pattern-index l.pattern-items))) ≡ are_writable_patterns (pattern_list_of (patterns_of l.pattern-items))
