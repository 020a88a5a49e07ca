-- Lines about what can't be read came behind those that were there.
use Rattle.std.proofs.Common.{string_bytes}
use Rattle.isle_cli.specs.Sources.{TellsFaults}
use Rattle.isle_cli.proofs.folders.push_entries.Given as goal

abbrev pub invariant-loop-entry : goal.invariant-loop-entry
invariant-loop-entry g l = TellsFaults l.program (string_bytes l.fn.faults) (string_bytes l.faults)

abbrev pub invariant-loop-entry-2 : goal.invariant-loop-entry-2
invariant-loop-entry-2 g l = TellsFaults l.program (string_bytes l.fn.faults) (string_bytes l.faults)
