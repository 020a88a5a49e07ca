-- No word so far is this one.
use Rattle.std.proofs.Common.{◌≡◌, drop, map}
use Rattle.isle_cli.specs.Arguments.{is_among}
use Rattle.isle_program_manifest.proofs.mistakes.is_among.Given as goal

abbrev pub invariant-loop-other : goal.invariant-loop-other
invariant-loop-other l = is_among (map (λ other. other.now) (drop l.other-index l.words)) l.word ≡ is_among (map (λ other. other.now) l.words) l.word
