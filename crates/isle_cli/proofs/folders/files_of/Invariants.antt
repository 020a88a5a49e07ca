-- Lines about what can't be read came behind those that were there, and no file is excluded.
use Rattle.std.proofs.Common.{◌≡◌, map, string_bytes, true}
use Rattle.isle_cli.specs.Sources.{TellsFaults, are_taken}
use Rattle.isle_cli.proofs.folders.files_of.Given as goal

abbrev pub invariant-loop : goal.invariant-loop
invariant-loop g l = record {
  told : TellsFaults l.program (string_bytes l.fn.faults) (string_bytes l.faults);
  taken : are_taken (map string_bytes l.excluded) l.name (map string_bytes l.files.items) ≡ true;
}
