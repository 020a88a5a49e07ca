-- No part so far is `..`.
use Rattle.std.proofs.Common.{◌≡◌, true, drop}
use Rattle.isle_program_manifest.specs.Paths.{has_up}
use Rattle.isle_program_manifest.proofs.mistakes.has_up.Given as goal

abbrev pub invariant-loop-i : goal.invariant-loop-i
invariant-loop-i l = has_up l.starts (drop l.i l.path) ≡ has_up true l.path
