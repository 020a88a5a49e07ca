-- What the names so far gave. Without a name `-` the input isn't read.
use Rattle.std.proofs.Common.{map, string_bytes, codes, take}
use Rattle.std.specs.Prelude.{Contains}
use Rattle.std.specs.Io.KnownBytes.{Keeps}
use Rattle.isle_cli.specs.Sources.{GiveNames, source_of}
use Rattle.isle_cli.proofs.sources.read_names.Given as goal

abbrev pub invariant-loop-name : goal.invariant-loop-name
invariant-loop-name g l = record {
  given : GiveNames (map string_bytes l.excluded) l.stdin_name l.program (map string_bytes (take l.name-index l.names)) (g.I.Read.remaining l.initial.input) (g.I.Read.remaining l.input)
      (map source_of l.read.list.items) (string_bytes l.read.faults);
  unread : ¬ (Contains (map string_bytes l.names) (codes "-")) → Keeps (g.I.Read.remaining l.initial.input) (g.I.Read.remaining l.input);
}
