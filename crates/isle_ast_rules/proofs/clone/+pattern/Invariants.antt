use Rattle.std.proofs.Common.{◌≡◌, take}
use Rattle.isle_ast_rules.specs.TreeView.{patterns_of}
use Rattle.isle_ast_rules.proofs.clone.+pattern.Given as goal

abbrev pub invariant-copy_patterns-loop-pattern : goal.invariant-copy_patterns-loop-pattern
invariant-copy_patterns-loop-pattern l = patterns_of l.copies.items ≡ patterns_of (take l.pattern-index l.pattern-items)
