use Rattle.std.proofs.Common.{◌≡◌, ◌++◌, drop}
use Rattle.std.specs.List.{filter}
use Rattle.isle_check_environment.specs.signatures.Views.{environment_of}
use Rattle.isle_check_typing.specs.TypedView.{all_typed_of, typed_list_of}
use Rattle.isle_check_rules.specs.Views.{texts_at}
use Rattle.isle_check_rules.specs.Warnings.{is_multi, list_terms_in}
use Rattle.isle_check_rules.proofs.extractors.+pattern.Given as goal

abbrev pub invariant-add_multi_terms_of-loop-pattern : goal.invariant-add_multi_terms_of-loop-pattern
invariant-add_multi_terms_of-loop-pattern l =
    texts_at l.found.items
    ++ filter (is_multi (environment_of l.env)) (list_terms_in (typed_list_of (all_typed_of (drop l.pattern-index l.pattern-items))))
    ≡ texts_at l.fn.found.items
    ++ filter (is_multi (environment_of l.env)) (list_terms_in (typed_list_of (all_typed_of l.pattern-items)))
