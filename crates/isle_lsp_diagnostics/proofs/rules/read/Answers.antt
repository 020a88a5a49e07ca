use Rattle.std.proofs.Common.{ap, map, subst, ◌∙◌}
use Rattle.std.proofs.lemmas.Result.{IfOk-weaker}
use Rattle.isle_ast.specs.TreeView.{definitions_of}
use Rattle.isle_cli.specs.Sources.{source_of}
use Rattle.isle_program.proofs.WritableLemmas.{reading-plain}
use Rattle.isle_program.specs.Reading.{IsReading}
use Rattle.isle_lsp_diagnostics.proofs.rules.read.Goals as goal

pub returns-clause-ok : goal.returns-clause-ok
returns-clause-ok c =
    let sources = ap (map source_of) c.deref.ensures.value ∙ c.in_ok-sources.ensures in
    IfOk-weaker c.read_all.result _ _
    (λ reading read. (reading.refusals.items, subst (λ ss. IsReading ss (definitions_of reading.defs.items) reading.refusals.items) sources read))
    c.read_all.ensures.ok

pub returns-clause-plain : goal.returns-clause-plain
returns-clause-plain c = IfOk-weaker c.read_all.result _ _ (λ reading read. reading-plain _ _ _ read) c.read_all.ensures.ok
