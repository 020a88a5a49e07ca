use Rattle.std.proofs.Common.{◌≡◌, drop}
use Rattle.isle_ast_rules.specs.TreeView.{pattern_list_of, patterns_of}
use Rattle.isle_ast_rules.proofs.Templates.{join_all}
use Rattle.isle_expand_core.specs.Expansion.{expand_list}
use Rattle.isle_expand_core.specs.Views.{macros_of}
use Rattle.isle_expand_core.proofs.patterns.+expand.Given as goal

abbrev pub invariant-expand_list-loop-pattern : goal.invariant-expand_list-loop-pattern
invariant-expand_list-loop-pattern l =
    join_all (patterns_of l.made.items) (expand_list (pattern_list_of (patterns_of (drop l.pattern-index l.pattern-items))) (macros_of l.macros))
    ≡ expand_list (pattern_list_of (patterns_of l.pattern-items)) (macros_of l.macros)
