use Rattle.std.proofs.Common.{◌≡◌, ◌++◌, drop}
use Rattle.std.specs.List.{flat_map}
use Rattle.isle_ast_rules.specs.TermHeads.{list_heads}
use Rattle.isle_ast_rules.specs.TreeView.{pattern_list_of, patterns_of}
use Rattle.isle_check_recursion.specs.Recursion.{used_at}
use Rattle.isle_check_recursion.specs.Views.{number_in}
use Rattle.isle_check_recursion.proofs.uses.+uses.Given as goal

abbrev pub invariant-add_uses_of-loop-pattern : goal.invariant-add_uses_of-loop-pattern
invariant-add_uses_of-loop-pattern l =
    l.found.items ++ flat_map (used_at (number_in l.numbers)) (list_heads (pattern_list_of (patterns_of (drop l.pattern-index l.pattern-items))))
    ≡ l.fn.found.items ++ flat_map (used_at (number_in l.numbers)) (list_heads (pattern_list_of (patterns_of l.pattern-items)))
