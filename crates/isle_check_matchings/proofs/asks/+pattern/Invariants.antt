use Rattle.std.proofs.Common.{◌≡◌, ◌++◌, drop}
use Rattle.isle_check_typing.specs.TypedView.{all_typed_of, typed_list_of}
use Rattle.isle_check_places.specs.UnderView.{under_of}
use Rattle.isle_check_places.specs.Views.{place_of}
use Rattle.isle_check_matchings.specs.Asks.{list_asks}
use Rattle.isle_check_matchings.specs.Views.{asks_of, terms_of}
use Rattle.isle_check_matchings.proofs.asks.+pattern.Given as goal

abbrev pub invariant-add_list_asks-loop-index : goal.invariant-add_list_asks-loop-index
invariant-add_list_asks-loop-index l =
    asks_of l.asks.items
    ++ list_asks (terms_of l.terms) (under_of l.under) l.index (typed_list_of (all_typed_of (drop l.index l.pattern-items))) (place_of l.at)
    ≡ asks_of l.fn.asks.items
    ++ list_asks (terms_of l.terms) (under_of l.under) 0 (typed_list_of (all_typed_of l.pattern-items)) (place_of l.at)
