use Rattle.std.proofs.Common.{◌-◌, ◌≤◌, List, ℕ, length, string_bytes}
use Rattle.isle_tidy_core.specs.Streams.{HasWritten, PutsMore}
use Rattle.isle_tidy_core.proofs.tidying.Tidying.put_some.Given as goal

abbrev pub invariant-loop-out : goal.invariant-loop-out
invariant-loop-out l =
    ((text : List ℕ) × (before : List ℕ) × HasWritten text before l.self) × (l.fn.self.at ≤ l.self.at)
    × PutsMore l.fn.self l.self (string_bytes l.fn.out) (string_bytes l.out)

abbrev pub decreases-loop-out : goal.decreases-loop-out
decreases-loop-out l = length l.self.text.now - l.self.at
