use Rattle.std.proofs.Common.{◌≡◌, ◌++◌, drop}
use Rattle.isle_check_overlaps.specs.Candidates.{candidates}
use Rattle.isle_check_overlaps.specs.Views.{candidates_of, matchings_of}
use Rattle.isle_check_overlaps.proofs.candidates.candidates.Given as goal

abbrev pub invariant-loop-number : goal.invariant-loop-number
invariant-loop-number l =
    candidates_of l.made.items ++ candidates l.number (matchings_of (drop l.number l.matchings)) ≡ candidates 0 (matchings_of l.matchings)
