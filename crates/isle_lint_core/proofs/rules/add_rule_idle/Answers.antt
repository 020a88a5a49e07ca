use Rattle.std.proofs.Common.{ap, ◌∙◌}
use Rattle.std.proofs.lemmas.Result.{on_ok_weaker}
use Rattle.isle_lint_core.specs.Names.{names_at}
use Rattle.isle_lint_core.proofs.RuleLemmas.{idle-joined}
use Rattle.isle_lint_core.proofs.rules.add_rule_idle.Goals as goal

pub returns : goal.returns
returns c =
    on_ok_weaker c.add_conditions_idle.result
    (λ adds. idle-joined c.args.wanted c.args.rule.now _ _ _ _ _ _ _ _
    (ap names_at c.deref.ensures.value ∙ c.in_ok-written.ensures) (ap names_at c.deref-4.ensures.value ∙ c.in_ok-written.ensures)
    (ap names_at c.deref-2.ensures.value ∙ c.in_ok-own.ensures)
    c.deref-3.ensures.value c.deref-5.ensures.value c.in_ok-add_idle.ensures adds)
    c.add_conditions_idle.ensures
