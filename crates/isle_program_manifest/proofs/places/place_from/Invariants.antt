-- The word is at no place so far.
use Rattle.std.proofs.Common.{◌≡◌, drop}
use Rattle.isle_program_manifest.specs.Places.{first_place}
use Rattle.isle_program_manifest.proofs.places.place_from.Given as goal

abbrev pub invariant-loop-offset : goal.invariant-loop-offset
invariant-loop-offset l = first_place l.inside l.word l.starts l.offset (drop l.offset l.text) ≡ first_place l.inside l.word l.fn.starts l.from (drop l.from l.text)
