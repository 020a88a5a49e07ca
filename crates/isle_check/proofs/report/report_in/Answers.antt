use Rattle.std.proofs.Common.{◌≡◌, ◌==◌, Bool, IfOk, ap, cond, false, map, refl, subst, sym, true, ◌∙◌, arith}
use Rattle.isle_ast.specs.TreeView.{definitions_of}
use Rattle.isle_cli.specs.Arguments.{given_of}
use Rattle.isle_cli.specs.Sources.{source_of}
use Rattle.isle_program.specs.Reading.{refused_count}
use Rattle.isle_program.specs.reports.Formats.{format_in}
use Rattle.isle_program_findings.specs.ReportView.{report_of}
use Rattle.isle_check.specs.Report.{lines_of, refused, rendered}
use Rattle.isle_check.specs.ReportView.{lines_at}
use Rattle.isle_check.proofs.report.report_in.Goals as goal

chosen : {A : Type 0} (b : Bool) (x y : A) → b ≡ true → cond b x y ≡ x
chosen true x y is = refl
chosen false x y is = absurd (cc)

pub returns : goal.returns
returns c =
    let given = map given_of c.args.arguments.now in
    let sources = map source_of c.args.sources.now in
    let ds = definitions_of c.args.reading.now.defs.items in
    let refusals = c.args.reading.now.refusals.items in
    let zero : c.refused_count.result ≡ 0 = let f = c.if-refused_count-ne0.false in omega (arith, f) in
    let none : (refused_count refusals == 0) ≡ true = ap (λ n. n == 0) (ap refused_count (sym c.deref.ensures.value) ∙ sym c.refused_count.ensures ∙ zero) in
    let lines : lines_at c.deref-3.result.now ≡ lines_of given sources ds =
    ap lines_at c.deref-3.ensures.value ∙ c.in_ok-lines.ensures ∙ ap (λ defs. lines_of given sources (definitions_of defs)) c.deref-2.ensures.value in
    subst (λ r. IfOk c.rendered.result (λ report. report_of report ≡ r))
    (ap (rendered c.format_of-format.result) lines ∙ ap (λ f. rendered f (lines_of given sources ds)) c.format_of-format.ensures
    ∙ sym (chosen (refused_count refusals == 0) (rendered (format_in given) (lines_of given sources ds)) (refused (format_in given) sources refusals) none))
    c.rendered.ensures
