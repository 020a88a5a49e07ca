use Rattle.std.proofs.Common.{ap, map, subst, ◌∙◌}
use Rattle.isle_ast.specs.TreeView.{definitions_of}
use Rattle.isle_cli.specs.Arguments.{given_of}
use Rattle.isle_cli.specs.Sources.{source_of}
use Rattle.isle_check.specs.Programs.{AreChecked, checked_of, programs_lines}
use Rattle.isle_check.specs.Report.{rendered}
use Rattle.isle_check.specs.ReportView.{lines_at}
use Rattle.isle_program_findings.specs.Programs.{part_of}
use Rattle.isle_check.proofs.programs.report_on_reading.Goals as goal

pub returns-clause-ok : goal.returns-clause-ok
returns-clause-ok c =
    let given = map given_of c.args.arguments.now in
    let sources = map source_of c.args.sources.now in
    let parts = map part_of c.args.parts.now in
    let refusals = c.args.reading.now.refusals.items in
    let checked = map checked_of c.in_ok-checked.checked.items in
    let format = c.format_of-format.result in
    record {
      definitions = definitions_of c.args.reading.now.defs.items;
      refusals = refusals;
      read = c.requires;
      checked = checked;
      each = subst (λ rs. AreChecked given sources parts rs checked) c.deref.ensures.value c.in_ok-checked.ensures.ok;
      is =
          c.in_ok-rendered.ensures
          ∙ (ap (λ ls. rendered format (lines_at ls)) c.deref-4.ensures.value
          ∙ (ap (rendered format) (c.in_ok-lines.ensures ∙ ap (λ cs. programs_lines format (map checked_of cs) sources c.deref-3.result.now) c.deref-2.ensures.value ∙ ap (programs_lines format checked sources) c.deref-3.ensures.value)
          ∙ ap (λ f. rendered f (programs_lines f checked sources refusals)) c.format_of-format.ensures));
    }
