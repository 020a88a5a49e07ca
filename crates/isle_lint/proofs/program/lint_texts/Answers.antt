use Rattle.std.proofs.Common.{map, rules, string_bytes, subst, tests, sym, ◌≡◌, ◌++◌}
use Rattle.isle_cli.specs.Arguments.{given_of}
use Rattle.isle_cli.specs.Sources.{source_of}
use Rattle.isle_cli.specs.Streams.{AppendsBeginning}
use Rattle.isle_lint.proofs.program.lint_texts.Goals as goal
use Rattle.isle_lint.specs.Doing.{IsReport}
use Rattle.isle_lint.specs.Options.{lints_on}
use Rattle.isle_program_findings.specs.ReportView.{report_of}

pub returns-in-Ok-clause-ok : goal.returns-in-Ok-clause-ok
returns-in-Ok-clause-ok g c =
    let given = map given_of c.args.arguments.now in
    let told = report_of c.in_ok-told.told.report in
    let note = string_bytes c.in_ok-told.told.note in
    let lines = string_bytes c.args.sources.now.faults in
    let both : string_bytes c.in_ok-lines.lines ≡ lines ++ note = search (tests, rules) in
    record {
      report = told;
      note = note;
      is_report = search (tests, rules);
      ends = search (tests, rules);
      written = search (tests, rules);
      begun = search (tests, rules);
    }
