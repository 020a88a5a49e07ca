use Rattle.std.proofs.Common.{ap, map, sym, subst, ◌∙◌}
use Rattle.std.proofs.lemmas.Result.{IfOk-weaker}
use Rattle.isle_ast.specs.TreeView.{definitions_of}
use Rattle.isle_cli.specs.Sources.{source_of}
use Rattle.isle_lint_core.specs.Finding.{finding_of}
use Rattle.isle_lint.specs.Report.{AreToldIn}
use Rattle.isle_lint.proofs.programs.copied_from.Goals as goal

pub returns : goal.returns
returns c =
    let definitions = definitions_of c.args.reading.now.defs.items in
    let refusals = c.args.reading.now.refusals.items in
    IfOk-weaker c.copied.result _ _
    (λ all same. record {
      definitions = definitions;
      refusals = refusals;
      read = c.requires;
      are = subst (AreToldIn c.args.lints.now (map source_of c.args.own.now) definitions) (sym (same ∙ ap (map finding_of) c.deref.ensures.value)) c.in_ok-told.ensures;
    })
    c.copied.ensures
