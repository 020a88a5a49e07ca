use Rattle.std.proofs.Common.{◌≡◌, ◌++◌, drop}
use Rattle.isle_check_overlaps.specs.Views.{matchings_of}
use Rattle.isle_check_rules.specs.Views.{typed_rules_of}
use Rattle.isle_check_matchings.specs.Matchings.{matchings}
use Rattle.isle_check_matchings.specs.Views.{terms_of}
use Rattle.isle_check_matchings.proofs.matchings.matchings.Given as goal

abbrev pub invariant-loop-rule : goal.invariant-loop-rule
invariant-loop-rule l =
    matchings_of l.made.items ++ matchings (terms_of l.terms) (typed_rules_of (drop l.rule-index l.rules))
    ≡ matchings (terms_of l.terms) (typed_rules_of l.rules)
