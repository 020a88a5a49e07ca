use Rattle.std.proofs.Common.{◌≤◌, length, take}
use Rattle.std.specs.Io.KnownBytes.{Appends}
use Rattle.isle_cli.proofs.streams.write_whole.Given as goal

abbrev pub invariant-loop : goal.invariant-loop
invariant-loop g l = record {
  part : Appends (g.W.Write.contents l.initial.writer) (g.W.Write.contents l.writer) (take l.written l.bytes);
  within : l.written ≤ length l.bytes;
}
