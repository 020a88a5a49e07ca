use Rattle.std.proofs.Common.{◌≡◌, drop}
use Rattle.isle_ast_rules.proofs.SameLists.{pattern_lists}
use Rattle.isle_ast_rules.proofs.compare.patterns.+same.Given as goal

abbrev pub invariant-same_patterns-loop-i : goal.invariant-same_patterns-loop-i
invariant-same_patterns-loop-i l = pattern_lists (drop l.i l.patterns.items) (drop l.i l.others.items) ≡ pattern_lists l.patterns.items l.others.items
