-- What came of the names so far.
use Rattle.std.proofs.Common.{length, take}
use Rattle.isle_tidy.specs.Doing.{RunsOnFiles}
use Rattle.isle_tidy.proofs.program.run_on_paths.Given as goal

abbrev pub invariant-loop-name : goal.invariant-loop-name
invariant-loop-name g l =
    RunsOnFiles l.task.listing (length (take l.name-index l.names)) l.status (g.W.Write.contents l.initial.output) (g.W.Write.contents l.output)
    (g.E.Write.contents l.initial.faults) (g.E.Write.contents l.faults)
