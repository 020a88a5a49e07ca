use Rattle.std.proofs.Common.{◌≡◌, ◌++◌, drop, string_bytes}
use Rattle.isle_ast_rules.specs.TreeView.{pattern_list_of, patterns_of}
use Rattle.isle_encoding.specs.Rules.{pattern_list, patterns}
use Rattle.isle_encoding.proofs.rules.+pattern.Given as goal

abbrev pub invariant-put_patterns-loop-value : goal.invariant-put_patterns-loop-value
invariant-put_patterns-loop-value l =
    string_bytes l.out ++ patterns (pattern_list_of (patterns_of (drop l.value-index l.value-items))) ≡
    string_bytes l.fn.out ++ pattern_list (pattern_list_of (patterns_of l.value-items))
