use Rattle.std.proofs.Common.{ap, ◌∙◌}
use Rattle.isle_ast_rules.specs.Tree.{macro_arg_pattern}
use Rattle.isle_ast_rules.specs.Templates.{replace_list}
use Rattle.isle_ast_names.specs.TreeView.{names_of}
use Rattle.isle_ast_rules.specs.TreeView.{pattern_list_of, patterns_of}
use Rattle.isle_ast_rules.proofs.Templates.{template_end}
use Rattle.isle_ast_rules.proofs.macros.+template.Goals as goal

pub templates_of-returns : goal.templates_of-returns
templates_of-returns t c =
    template_end (names_of c.args.names.now) c.loop-pattern.made.items c.deref-pattern-items.result.now c.loop-pattern.pattern-index
    c.loop-pattern-test.false c.loop-pattern.invariant
    ∙ ap (λ ps. replace_list (pattern_list_of (patterns_of ps)) (names_of c.args.names.now) macro_arg_pattern) c.deref-pattern-items.ensures.value
