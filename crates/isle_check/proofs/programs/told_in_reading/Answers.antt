use Rattle.std.proofs.Common.{ap, map, sym, subst, ◌≡◌, ◌∙◌, false}
use Rattle.std.proofs.lemmas.Result.{IfOk-weaker}
use Rattle.isle_ast.specs.MacroArgs.{definitions_have_macro_arg}
use Rattle.isle_ast.specs.TreeView.{definitions_of}
use Rattle.isle_cli.specs.Arguments.{given_of}
use Rattle.isle_cli.specs.Sources.{source_of}
use Rattle.isle_check.specs.Report as report
use Rattle.isle_program.proofs.WritableLemmas.{reading-plain}
use Rattle.isle_check.proofs.programs.told_in_reading.Goals as goal

pub told_in-requires : goal.told_in-requires
told_in-requires c =
    subst (λ defs. definitions_have_macro_arg (definitions_of defs) ≡ false) (sym c.deref.ensures.value)
    (reading-plain (map source_of c.args.own.now) (definitions_of c.args.reading.now.defs.items) c.args.reading.now.refusals.items c.requires)

pub returns : goal.returns
returns c =
    IfOk-weaker c.told_in.result _ _
    (λ told is. record {
      definitions = definitions_of c.args.reading.now.defs.items;
      refusals = c.args.reading.now.refusals.items;
      read = c.requires;
      is = is ∙ ap (λ defs. report.told_in (map given_of c.args.arguments.now) (map source_of c.args.own.now) (definitions_of defs)) c.deref.ensures.value;
    })
    c.told_in.ensures
