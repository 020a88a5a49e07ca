-- What came of the names so far.
use Rattle.std.proofs.Common.{map, string_bytes, take}
use Rattle.isle_tidy.specs.Doing.{RunsOnAll}
use Rattle.isle_tidy.proofs.program.run_on_each.Given as goal

abbrev pub invariant-loop-name : goal.invariant-loop-name
invariant-loop-name g l =
    RunsOnAll l.task.program.now l.task.listing l.task.stdin_name.now (map string_bytes (take l.name-index l.names)) l.status
    (g.I.Read.remaining l.initial.streams.input) (g.I.Read.remaining l.streams.input) (g.W.Write.contents l.initial.streams.output) (g.W.Write.contents l.streams.output)
    (g.E.Write.contents l.initial.streams.faults) (g.E.Write.contents l.streams.faults)
