use Rattle.std.proofs.Common.{◌++◌, ◌∷◌, ap, ◌∙◌}
use Rattle.isle_ast_names.specs.TreeView.{name_of}
use Rattle.isle_lint_core.specs.Names.{names_at, repeated}
use Rattle.isle_lint_core.proofs.SeenLemmas.{repeated-step}
use Rattle.isle_lint_core.proofs.names.find_repeats.Goals as goal

pub loop-name-init : goal.loop-name-init
loop-name-init c = λ earlier knows.
    (earlier, knows, ap (λ xs. names_at xs ++ repeated earlier (names_at c.args.names.now)) c.new-found.ensures.items)

pub loop-name-preserved : goal.loop-name-preserved
loop-name-preserved c = λ earlier knows.
    let before = c.loop-name.invariant earlier knows in
    let put = c.in_ok-is_new.ensures in (
      name_of c.name-item.result.now ∷ before.0,
      put.known before.0 before.1,
      repeated-step c.loop-name.found.items _ before.0 c.args.names.now c.loop-name.name-index c.name-item.result _ c.loop-name-test.true c.name-item.is (put.new before.0 before.1) c.in_ok-add_if.ensures ∙ before.2,
    )
