use Rattle.std.proofs.Common.{ap, map, ◌∙◌}
use Rattle.std.proofs.lemmas.Result.{IfOk-weaker}
use Rattle.isle_ast.specs.TreeView.{definitions_of}
use Rattle.isle_cli.specs.Arguments.{given_of}
use Rattle.isle_cli.specs.Sources.{source_of}
use Rattle.isle_lint_core.specs.Finding.{finding_of}
use Rattle.isle_program_findings.specs.ReportView.{report_of}
use Rattle.isle_lint.proofs.ReportLemmas.{reported-as}
use Rattle.isle_lint.proofs.report.report_on_reading.Goals as goal

pub returns : goal.returns
returns c =
    let given = map given_of c.args.arguments.now in
    let sources = map source_of c.args.sources.now in
    IfOk-weaker c.noted.result _ _
    (λ noted is. record {
      definitions = definitions_of c.args.reading.now.defs.items;
      refusals = c.args.reading.now.refusals.items;
      read = c.requires;
      told = map finding_of c.in_ok-told.told.items;
      are_told = c.in_ok-told.ensures;
      is = ap report_of is.0 ∙ reported-as given sources _ _ _ _ (report_of c.in_ok-report.report) c.deref.ensures.value
          (ap (map finding_of) c.deref-2.ensures.value) c.in_ok-report.ensures;
      noted = is.1;
    })
    c.noted.ensures
