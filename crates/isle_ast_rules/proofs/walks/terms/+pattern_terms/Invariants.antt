use Rattle.std.proofs.Common.{drop}
use Rattle.std.specs.List.{FoldsTo}
use Rattle.isle_ast_rules.specs.TermHeads.{CalledAtHead, list_heads}
use Rattle.isle_ast_rules.specs.TreeView.{pattern_list_of, patterns_of}
use Rattle.isle_ast_rules.proofs.walks.terms.+pattern_terms.Given as goal

-- where the calls at the patterns to come end, the calls at all patterns end
abbrev pub invariant-patterns_terms-loop-pattern : goal.invariant-patterns_terms-loop-pattern
invariant-patterns_terms-loop-pattern g l =
    goal.F-IsAlwaysCallable g l.f
    × ((last : _) → FoldsTo (CalledAtHead g.F.FnMut) l.f (list_heads (pattern_list_of (patterns_of (drop l.pattern-index l.pattern-items)))) last
    → FoldsTo (CalledAtHead g.F.FnMut) l.fn.f (list_heads (pattern_list_of (patterns_of l.pattern-items))) last)
