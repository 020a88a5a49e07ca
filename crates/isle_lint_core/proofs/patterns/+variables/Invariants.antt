use Rattle.std.proofs.Common.{◌≡◌, ◌++◌, drop}
use Rattle.isle_ast_rules.specs.TreeView.{pattern_list_of, patterns_of}
use Rattle.isle_lint_core.specs.Names.{names_at}
use Rattle.isle_lint_core.specs.Variables.{list_variables}
use Rattle.isle_lint_core.proofs.patterns.+variables.Given as goal

-- the variables so far, and those of the patterns to come, are all
abbrev pub invariant-add_list_variables-loop-pattern : goal.invariant-add_list_variables-loop-pattern
invariant-add_list_variables-loop-pattern l =
    names_at l.names.items ++ list_variables l.wanted (pattern_list_of (patterns_of (drop l.pattern-index l.pattern-items)))
    ≡ names_at l.fn.names.items ++ list_variables l.wanted (pattern_list_of (patterns_of l.pattern-items))
