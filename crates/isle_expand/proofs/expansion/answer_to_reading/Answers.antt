use Rattle.std.proofs.Common.{map, subst, sym}
use Rattle.isle_ast.specs.TreeView.{definitions_of}
use Rattle.isle_cli.specs.Sources.{source_of}
use Rattle.isle_program.specs.Reading.{IsReading}
use Rattle.isle_program.proofs.WritableLemmas.{reading-plain}
use Rattle.isle_expand.proofs.expansion.answer_to_reading.Goals as goal

pub answer_to_program-requires-clause-plain : goal.answer_to_program-requires-clause-plain
answer_to_program-requires-clause-plain c =
    let sources = map source_of c.args.sources.now in
    let refusals = c.args.reading.now.refusals.items in
    reading-plain sources (definitions_of c.deref-2.result.now) refusals
    (subst (λ ds. IsReading sources (definitions_of ds) refusals) (sym c.deref-2.ensures.value) c.requires)
