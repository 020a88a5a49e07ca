use Rattle.std.proofs.Common.{arith, map}
use Rattle.isle_lint_core.specs.Finding.{finding_of}
use Rattle.isle_lint.proofs.ReportLemmas.{told-all, told-file}
use Rattle.isle_lint.proofs.report.told.Goals as goal

pub loop-file-preserved : goal.loop-file-preserved
loop-file-preserved c =
    told-file c.loop-file.file c.args.sources.now c.index-sources-file.result (map finding_of c.args.found.now) _ _
    c.loop-file-test.true c.index-sources-file.is c.in_ok-add_told_in.ensures c.loop-file.invariant

pub returns : goal.returns
returns c = told-all c.loop-file.file c.args.sources.now (map finding_of c.args.found.now) _ (omega (arith, c.loop-file-test.false)) c.loop-file.invariant
