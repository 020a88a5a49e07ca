use Rattle.std.proofs.Common.{◌≡◌, drop}
use Rattle.isle_ast_rules.specs.MacroArgs.{have_macro_arg}
use Rattle.isle_ast_rules.specs.TreeView.{pattern_list_of, patterns_of}
use Rattle.isle_ast_rules.proofs.walks.+macro_arg.Given as goal

abbrev pub invariant-any_holds_macro_arg-loop-pattern : goal.invariant-any_holds_macro_arg-loop-pattern
invariant-any_holds_macro_arg-loop-pattern l =
    have_macro_arg (pattern_list_of (patterns_of (drop l.pattern-index l.pattern-items))) ≡ have_macro_arg (pattern_list_of (patterns_of l.pattern-items))
