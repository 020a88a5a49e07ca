-- What the files so far gave.
use Rattle.std.proofs.Common.{map, string_bytes, take}
use Rattle.isle_cli.specs.Sources.{Adds, GiveFiles, source_of}
use Rattle.isle_cli.proofs.sources.read_files.Given as goal

abbrev pub invariant-loop-path : goal.invariant-loop-path
invariant-loop-path g l =
    Adds (map source_of l.initial.read.list.items) (map source_of l.read.list.items) (string_bytes l.initial.read.faults) (string_bytes l.read.faults)
    (GiveFiles l.program (map string_bytes (take l.path-index l.paths)))
