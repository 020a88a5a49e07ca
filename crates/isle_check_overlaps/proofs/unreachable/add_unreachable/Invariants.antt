use Rattle.std.proofs.Common.{◌≡◌, ◌++◌, drop}
use Rattle.isle_check_overlaps.specs.Faults.{unreachable_rules}
use Rattle.isle_check_overlaps.specs.Views.{faults_of, matchings_of}
use Rattle.isle_check_overlaps.proofs.unreachable.add_unreachable.Given as goal

abbrev pub invariant-loop-matching : goal.invariant-loop-matching
invariant-loop-matching l =
    faults_of l.found.items ++ unreachable_rules (matchings_of (drop l.matching-index l.matchings))
    ≡ faults_of l.fn.found.items ++ unreachable_rules (matchings_of l.matchings)
