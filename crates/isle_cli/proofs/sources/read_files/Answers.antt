use Rattle.isle_cli.proofs.SourceLemmas.{one_file_on}
use Rattle.isle_cli.proofs.sources.read_files.Goals as goal

pub loop-path-preserved : goal.loop-path-preserved
loop-path-preserved g c =
    one_file_on c.args.program.now c.args.paths.now c.loop-path.path-index c.path-item.result _ _ _ _ _ _ c.loop-path-test.true c.path-item.is
    c.loop-path.invariant (rw c.as_str.ensures.value at c.in_ok-read_one.ensures)
