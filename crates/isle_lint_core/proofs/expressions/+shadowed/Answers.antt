use Rattle.std.proofs.Common.{◌∙◌}
use Rattle.isle_ast_rules.specs.TreeView.{let_list_of, single_lets_of}
use Rattle.isle_lint_core.specs.Shadowed.{let_names}
use Rattle.isle_ast_names.proofs.ListComparison.{count}
use Rattle.isle_lint_core.proofs.NameLemmas.{names_at-take}
use Rattle.isle_lint_core.proofs.expressions.+shadowed.Goals as goal

pub add_shadowed-returns-in_ok-add_shadowed-in-Let-clause-bound :
    goal.add_shadowed-returns-in_ok-add_shadowed-in-Let-clause-bound
add_shadowed-returns-in_ok-add_shadowed-in-Let-clause-bound t c =
    rw c.truncate.ensures.items
    (names_at-take c.len-around.result c.args.bound.now.items c.add_shadowed.new.bound.items (let_names (let_list_of (single_lets_of c.in-Let.defs.items)))
    (c.len-around.ensures ∙ count c.args.bound.now)
    (c.in_ok-add_shadowed-in-Let.ensures.bound ∙ c.in_ok-add_let_shadowed-in-Let.ensures.bound))
