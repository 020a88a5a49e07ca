use Rattle.std.proofs.Common.{ap, map, ◌∙◌}
use Rattle.std.proofs.lemmas.Result.{IfOk-weaker}
use Rattle.isle_ast.specs.TreeView.{definitions_of}
use Rattle.isle_cli.specs.Sources.{source_of}
use Rattle.isle_program.proofs.WritableLemmas.{reading-plain}
use Rattle.isle_program_findings.specs.ReportView.{report_of}
use Rattle.isle_check.proofs.report.report_on_reading.Goals as goal

pub report_in-requires : goal.report_in-requires
report_in-requires c = reading-plain (map source_of c.args.sources.now) (definitions_of c.args.reading.now.defs.items) c.args.reading.now.refusals.items c.requires

pub returns : goal.returns
returns c =
    IfOk-weaker c.noted.result _ _
    (λ noted is. record {
      definitions = definitions_of c.args.reading.now.defs.items;
      refusals = c.args.reading.now.refusals.items;
      read = c.requires;
      is = ap report_of is.0 ∙ c.in_ok-report.ensures;
      noted = is.1;
    })
    c.noted.ensures
