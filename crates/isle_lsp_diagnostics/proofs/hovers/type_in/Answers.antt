use Rattle.std.proofs.Common.{ap, ◌∙◌}
use Rattle.std.proofs.lemmas.Result.{IfOk-weaker}
use Rattle.isle_ast.specs.TreeView.{definitions_of}
use Rattle.isle_check_environment.specs.Views.{rules_at}
use Rattle.isle_check_environment.specs.signatures.Environment.{environment}
use Rattle.isle_lsp_diagnostics.specs.Hovers.{typed_at}
use Rattle.isle_lsp_diagnostics.proofs.hovers.type_in.Goals as goal

pub returns : goal.returns
returns c =
    let offset = c.args.offset in
    let env = environment (definitions_of c.args.defs.now) in
    let rules = ap rules_at c.deref.ensures.value ∙ c.in_ok-rules.ensures in
    IfOk-weaker c.typed_at.result _ _
    (λ ty is. is ∙ ap (λ env. typed_at env offset (rules_at c.deref.result.now)) c.in_ok-env.ensures ∙ ap (typed_at env offset) rules) c.typed_at.ensures
