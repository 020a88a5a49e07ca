use Rattle.std.proofs.Common.{ℕ, List, subst}
use Rattle.isle_program.specs.Reading.{IsWellReadAs}
use Rattle.isle_program.proofs.ReadingLemmas.{reading-step}
use Rattle.isle_program.proofs.trees.read_all.Goals as goal

pub loop-file-preserved : goal.loop-file-preserved
loop-file-preserved c =
    let Reads : List ℕ → Type 0 = λ text. IsWellReadAs c.loop-file.file text c.read_shallow_defs-read.result in
    reading-step c.args.sources.now c.loop-file.file c.index-sources-file.result c.loop-file.reading c.in_ok-reading.reading c.read_shallow_defs-read.result
    c.loop-file-test.true c.index-sources-file.is c.loop-file.invariant (subst Reads c.as_str.ensures.value c.read_shallow_defs-read.ensures.read) c.in_ok-reading.ensures.ok
