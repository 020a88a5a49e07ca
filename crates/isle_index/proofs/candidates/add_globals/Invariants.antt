use Rattle.std.proofs.Common.{◌≡◌, ◌++◌, drop, filter, map}
use Rattle.std.specs.List.{filter_map}
use Rattle.isle_index.specs.Entries.{all_of, unpacked_from}
use Rattle.isle_index.specs.Candidates.{begins_with, candidate_of, global_candidate}
use Rattle.isle_index.specs.Symbols.{symbol}
use Rattle.isle_index.proofs.candidates.add_globals.Given as goal

abbrev pub invariant-loop-number : goal.invariant-loop-number
invariant-loop-number l =
    map candidate_of l.found.items ++ filter (begins_with l.prefix) (map global_candidate (filter_map (λ s. symbol s.event) (unpacked_from l.entries.texts.now l.number (drop l.number l.entries.items.now))))
    ≡ map candidate_of l.fn.found.items ++ filter (begins_with l.prefix) (map global_candidate (filter_map (λ s. symbol s.event) (all_of l.entries)))
