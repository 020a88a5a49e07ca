use Rattle.std.proofs.Common.{◌+◌, ◌∙◌, ap, arith, length-drop}
use Rattle.std.proofs.lemmas.List.{take_all}
use Rattle.isle_ast_rules.specs.TreeView.{expression_of}
use Rattle.isle_lint_core.specs.Names.{names_at}
use Rattle.isle_lint_core.proofs.RuleLemmas.{conditions_idle-step}
use Rattle.isle_lint_core.proofs.rules.add_conditions_idle.Goals as goal

pub loop-i-preserved : goal.loop-i-preserved
loop-i-preserved c =
    conditions_idle-step c.args.wanted (names_at c.args.written.now) _ c.args.conditions.now _ c.loop-i.i c.index-conditions-i.result (expression_of c.args.expr.now) _ _
    c.loop-i-test.true c.index-conditions-i.is (ap names_at c.deref.ensures.value ∙ c.in_ok-own.ensures) (take_all _ _ (omega (arith, length-drop (c.loop-i.i + 1) c.args.conditions.now))) c.in_ok-add_idle.ensures
    ∙ c.loop-i.invariant
