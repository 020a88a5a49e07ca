use Rattle.std.proofs.Common.{◌≡◌, drop, map}
use Rattle.isle_check_typing.specs.expressions.TypedExpressions.{typed_expression_list, typed_let_list}
use Rattle.isle_check_typing.specs.expressions.TypedView.{typed_expression_of, typed_let_of}
use Rattle.isle_check_places.specs.Views.{place_of, places_of}
use Rattle.isle_check_matchings.specs.Values.{join, known_with, value_at, values}
use Rattle.isle_check_matchings.specs.Views.{asks_of, terms_of}
use Rattle.isle_check_matchings.proofs.values.+value.Given as goal

abbrev pub invariant-values-loop-expr : goal.invariant-values-loop-expr
invariant-values-loop-expr l =
    join (value_at (place_of l.at.items) (places_of l.needs.items)) (values (terms_of l.terms) (asks_of l.known) (typed_expression_list (map typed_expression_of (drop l.expr-index l.expr-items))))
    ≡ values (terms_of l.terms) (asks_of l.known) (typed_expression_list (map typed_expression_of l.expr-items))

abbrev pub invariant-known_with-loop-def : goal.invariant-known_with-loop-def
invariant-known_with-loop-def l =
    known_with (terms_of l.terms) (asks_of l.inner.items) (typed_let_list (map typed_let_of (drop l.def-index l.def-items)))
    ≡ known_with (terms_of l.terms) (asks_of l.known) (typed_let_list (map typed_let_of l.def-items))
