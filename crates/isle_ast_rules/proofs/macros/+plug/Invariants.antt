use Rattle.std.proofs.Common.{◌≡◌, drop}
use Rattle.isle_ast_rules.specs.Templates.{plug_list}
use Rattle.isle_ast_rules.specs.TreeView.{pattern_list_of, patterns_of}
use Rattle.isle_ast_rules.proofs.Templates.{join_all}
use Rattle.isle_ast_rules.proofs.macros.+plug.Given as goal

abbrev pub invariant-plugged_list-loop-pattern : goal.invariant-plugged_list-loop-pattern
invariant-plugged_list-loop-pattern l =
    join_all (patterns_of l.made.items) (plug_list (pattern_list_of (patterns_of (drop l.pattern-index l.pattern-items))) (patterns_of l.macro_args))
    ≡ plug_list (pattern_list_of (patterns_of l.pattern-items)) (patterns_of l.macro_args)
