use Rattle.std.proofs.Common.{◌≡◌, ◌++◌, length, map, take}
use Rattle.isle_index.specs.Entries.{moved}
use Rattle.isle_index.proofs.moving.add_moved.Given as goal

abbrev pub invariant-loop-entry : goal.invariant-loop-entry
invariant-loop-entry l = l.entries.items ≡ l.fn.entries.items ++ map (moved l.from (length l.fn.entries.items)) (take l.entry-index l.more)
