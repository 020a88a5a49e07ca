use Rattle.std.proofs.Common.{◌≡◌, ◌+◌, ◌∷◌, ◌++◌, ap, append_assoc, drop, map, sym, ◌∙◌}
use Rattle.std.proofs.lemmas.List.{drop_more}
use Rattle.isle_cli.specs.Arguments.{given_of}
use Rattle.isle_cli.specs.Sources.{source_of}
use Rattle.isle_check_core.specs.Views.{finding_of, findings_of}
use Rattle.isle_check.specs.Report.{told_all, told_for}
use Rattle.isle_check.specs.ReportView.{told_node}
use Rattle.isle_check.proofs.report.told_all.Goals as goal

pub loop-finding-preserved : goal.loop-finding-preserved
loop-finding-preserved c =
    let given = map given_of c.args.arguments.now in
    let sources = map source_of c.args.sources.now in
    let found = c.args.found.now in
    let i = c.loop-finding.finding-index in
    let f = c.finding-item.result in
    let before = map told_node c.loop-finding.told.items in
    let here = told_for given sources (finding_of f) in
    let rest = told_all given sources (findings_of (drop (i + 1) found)) in
    let step : told_all given sources (findings_of (drop i found)) ≡ here ++ rest =
    ap (λ fs. told_all given sources (findings_of fs))
    (drop_more found i f c.loop-finding-test.true ∙ ap (λ q. q ∷ drop (i + 1) found) (sym c.finding-item.is)) in
    ap (λ ts. ts ++ rest) c.in_ok-add_told.ensures ∙ append_assoc before here rest ∙ ap (λ ts. before ++ ts) (sym step) ∙ c.loop-finding.invariant
