use Rattle.std.proofs.Common.{◌≡◌, drop}
use Rattle.isle_check_rules.specs.Views.{typed_conditions_of}
use Rattle.isle_check_matchings.specs.RuleAsks.{conditions_asks}
use Rattle.isle_check_matchings.specs.Views.{asks_of, terms_of}
use Rattle.isle_check_matchings.proofs.rules.add_conditions.Given as goal

abbrev pub invariant-loop-iflet : goal.invariant-loop-iflet
invariant-loop-iflet l =
    conditions_asks (terms_of l.terms) (asks_of l.asks.items) (typed_conditions_of (drop l.iflet-index l.iflets))
    ≡ conditions_asks (terms_of l.terms) (asks_of l.fn.asks.items) (typed_conditions_of l.iflets)
