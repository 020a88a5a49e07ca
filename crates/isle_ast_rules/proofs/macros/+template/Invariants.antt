use Rattle.std.proofs.Common.{◌≡◌, map, take}
use Rattle.isle_ast_rules.specs.Tree.{macro_arg_pattern}
use Rattle.isle_ast_rules.specs.Templates.{replace}
use Rattle.isle_ast_names.specs.TreeView.{names_of}
use Rattle.isle_ast_rules.specs.TreeView.{pattern_of, patterns_of}
use Rattle.isle_ast_rules.proofs.macros.+template.Given as goal

abbrev pub invariant-templates_of-loop-pattern : goal.invariant-templates_of-loop-pattern
invariant-templates_of-loop-pattern l =
    patterns_of l.made.items ≡ map (λ p. replace (pattern_of p) (names_of l.names) macro_arg_pattern) (take l.pattern-index l.pattern-items)
