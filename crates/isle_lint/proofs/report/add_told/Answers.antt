use Rattle.std.proofs.Common.{◌∙◌}
use Rattle.isle_lint.proofs.ReportLemmas.{told-step}
use Rattle.isle_lint.proofs.report.add_told.Goals as goal

pub loop-finding-preserved : goal.loop-finding-preserved
loop-finding-preserved c =
    told-step c.args.file c.args.allowances.now c.loop-finding.told.items _ c.args.found.now c.loop-finding.finding-index _ _
    c.loop-finding-test.true c.is_told-is_told.ensures c.in_ok-push_if.ensures
    ∙ c.loop-finding.invariant
