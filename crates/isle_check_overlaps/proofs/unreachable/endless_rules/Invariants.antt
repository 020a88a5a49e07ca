use Rattle.std.proofs.Common.{◌≡◌, ◌++◌, drop}
use Rattle.isle_check_overlaps.specs.Faults.{endless_rules}
use Rattle.isle_check_overlaps.specs.Views.{faults_of, matchings_of}
use Rattle.isle_check_overlaps.proofs.unreachable.endless_rules.Given as goal

abbrev pub invariant-loop-matching : goal.invariant-loop-matching
invariant-loop-matching l =
    faults_of l.found.items ++ endless_rules (matchings_of (drop l.matching-index l.matchings)) ≡ endless_rules (matchings_of l.matchings)
