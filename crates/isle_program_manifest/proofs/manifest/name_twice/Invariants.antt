-- No program so far has the name of an earlier one.
use Rattle.std.proofs.Common.{◌≡◌, [], drop, map, take}
use Rattle.isle_program_manifest.specs.Manifest.{name_twice, program_of}
use Rattle.isle_program_manifest.proofs.manifest.name_twice.Given as goal

abbrev pub invariant-loop-number : goal.invariant-loop-number
invariant-loop-number l = name_twice (map program_of (take l.number l.programs)) (map program_of (drop l.number l.programs)) ≡ name_twice [] (map program_of l.programs)
