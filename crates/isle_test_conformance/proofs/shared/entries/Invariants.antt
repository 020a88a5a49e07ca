-- Some of the tidy text is written.
use Rattle.std.proofs.Common.{ℕ, List}
use Rattle.isle_tidy_core.specs.Streams.{HasWritten}
use Rattle.isle_test_conformance.proofs.shared.entries.Given as goal

abbrev pub invariant-loop : goal.invariant-loop
invariant-loop l = (out : List ℕ) × HasWritten l.text out l.tidying
