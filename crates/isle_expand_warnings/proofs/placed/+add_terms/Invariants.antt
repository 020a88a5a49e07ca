use Rattle.std.proofs.Common.{◌≡◌, ◌++◌, drop}
use Rattle.isle_ast_names.specs.TreeView.{name_of}
use Rattle.isle_ast_rules.specs.TreeView.{pattern_list_of, patterns_of}
use Rattle.isle_expand_warnings.specs.Placed.{all_placed, arguments_placed, each_placed, wanted_of}
use Rattle.isle_expand_warnings.proofs.placed.+add_terms.Given as goal

abbrev pub invariant-add_list_terms-loop-pattern : goal.invariant-add_list_terms-loop-pattern
invariant-add_list_terms-loop-pattern l =
    all_placed l.found.items ++ each_placed (wanted_of l.wanted) (pattern_list_of (patterns_of (drop l.pattern-index l.pattern-items)))
    ≡ all_placed l.fn.found.items ++ each_placed (wanted_of l.wanted) (pattern_list_of (patterns_of l.pattern-items))

abbrev pub invariant-add_argument_terms-loop-number : goal.invariant-add_argument_terms-loop-number
invariant-add_argument_terms-loop-number l =
    all_placed l.found.items ++ arguments_placed (name_of l.term).text l.number (pattern_list_of (patterns_of (drop l.number l.pattern-items)))
    ≡ all_placed l.fn.found.items ++ arguments_placed (name_of l.term).text 0 (pattern_list_of (patterns_of l.pattern-items))
