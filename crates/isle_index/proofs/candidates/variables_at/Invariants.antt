use Rattle.std.proofs.Common.{◌≡◌, [], drop}
use Rattle.isle_index.specs.Entries.{all_of, unpacked_from}
use Rattle.isle_index.specs.Candidates.{bound_at}
use Rattle.isle_resolve.specs.Scopes.{bounds_of}
use Rattle.isle_index.proofs.candidates.variables_at.Given as goal

abbrev pub invariant-loop-index : goal.invariant-loop-index
invariant-loop-index l =
    bound_at l.number (bounds_of l.bound.items) (unpacked_from l.entries.texts.now l.index (drop l.index l.entries.items.now)) ≡ bound_at l.number [] (all_of l.entries)
