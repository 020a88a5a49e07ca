-- No program so far has the name.
use Rattle.std.proofs.Common.{◌≡◌, drop, map}
use Rattle.isle_program_manifest.specs.Manifest.{has_name, program_of}
use Rattle.isle_program_manifest.proofs.manifest.has_name.Given as goal

abbrev pub invariant-loop-program : goal.invariant-loop-program
invariant-loop-program l = has_name (map program_of (drop l.program-index l.programs)) l.name ≡ has_name (map program_of l.programs) l.name
