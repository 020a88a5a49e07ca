use Rattle.std.proofs.Common.{◌-◌, length, string_bytes}
use Rattle.isle_tidy_core.specs.Streams.{HasLaidOut}
use Rattle.isle_tidy_core.proofs.tidying.laid_out.Given as goal

abbrev pub invariant-loop-answer : goal.invariant-loop-answer
invariant-loop-answer l = HasLaidOut l.text (string_bytes l.answer) l.tidying

abbrev pub decreases-loop-answer : goal.decreases-loop-answer
decreases-loop-answer l = length l.text - l.tidying.at
