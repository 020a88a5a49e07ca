-- The headers so far were found one after another.
use Rattle.std.proofs.Common.{◌≡◌}
use Rattle.isle_program_manifest.specs.Places.{header}
use Rattle.isle_program_manifest.proofs.places.header.Given as goal

abbrev pub invariant-loop : goal.invariant-loop
invariant-loop l = l.offset ≡ header l.text l.counter
