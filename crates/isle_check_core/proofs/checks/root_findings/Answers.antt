use Rattle.std.proofs.Common.{◌≡◌, ap, ◌∙◌}
use Rattle.std.proofs.lemmas.Result.{IfOk-weaker}
use Rattle.isle_ast.specs.TreeView.{definitions_of}
use Rattle.isle_check_core.specs.Findings.{root_findings, root_findings_by}
use Rattle.isle_check_core.specs.Views.{findings_of}
use Rattle.isle_check_declarations.specs.Terms.{terms}
use Rattle.isle_check_environment.specs.signatures.Views.{environment_of}
use Rattle.isle_check_core.proofs.checks.root_findings.Goals as goal

pub returns : goal.returns
returns c =
    let ds = definitions_of c.args.defs.now in
    IfOk-weaker c.root_findings_by.result _ (λ found. findings_of found.items ≡ root_findings ds)
    (λ found told. told
    ∙ ap (λ t. root_findings_by t (environment_of c.in_ok-env.env) ds) c.in_ok-terms.ensures
    ∙ ap (λ e. root_findings_by (terms ds) e ds) c.in_ok-env.ensures)
    c.root_findings_by.ensures
