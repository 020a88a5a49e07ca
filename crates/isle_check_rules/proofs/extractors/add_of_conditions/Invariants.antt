use Rattle.std.proofs.Common.{◌≡◌, ◌++◌, drop}
use Rattle.std.specs.List.{filter, flat_map}
use Rattle.isle_check_environment.specs.signatures.Views.{environment_of}
use Rattle.isle_check_rules.specs.Views.{texts_at, typed_conditions_of}
use Rattle.isle_check_rules.specs.Warnings.{is_multi, terms_in}
use Rattle.isle_check_rules.proofs.extractors.add_of_conditions.Given as goal

abbrev pub invariant-loop-iflet : goal.invariant-loop-iflet
invariant-loop-iflet l =
    texts_at l.found.items
    ++ filter (is_multi (environment_of l.env)) (flat_map (λ c. terms_in c.pattern) (typed_conditions_of (drop l.iflet-index l.iflets)))
    ≡ texts_at l.fn.found.items
    ++ filter (is_multi (environment_of l.env)) (flat_map (λ c. terms_in c.pattern) (typed_conditions_of l.iflets))
