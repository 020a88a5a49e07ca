-- What a term asks, and its value, by the number of its arguments.
use Rattle.std.proofs.Common.{◌≡◌, ℕ, List, [], ◌∷◌, ◌++◌, length, map, refl, sym, ap, ◌∙◌, arith, append_assoc}
use Rattle.isle_check_typing.specs.declared.typed.TypedPattern.{TypedPattern}
use Rattle.isle_check_typing.specs.TypedView.{all_typed_of, typed_list_of}
use Rattle.isle_check_typing.specs.declared.expressions.typed.TypedExpression.{TypedExpression}
use Rattle.isle_check_typing.specs.expressions.TypedExpressions.{typed_expression_list}
use Rattle.isle_check_typing.specs.expressions.TypedView.{typed_expression_of}
use Rattle.isle_check_places.specs.Under.{UnderNode}
use Rattle.isle_check_places.specs.Places.{Place}
use Rattle.isle_check_matchings.specs.Asks.{TermsNode, AskNode, OpeningNode, count_typed, list_asks, term_asks, term_opening}
use Rattle.isle_check_matchings.specs.Values.{ValueNode, count_typed_expressions, called, term_value, values}

pub count_of : (ps : List TypedPattern) → count_typed (typed_list_of (all_typed_of ps)) ≡ length ps
count_of [] = refl
count_of (p ∷ ps) = omega (arith, count_of ps)

pub count_of_expressions : (es : List TypedExpression) → count_typed_expressions (typed_expression_list (map typed_expression_of es)) ≡ length es
count_of_expressions [] = refl
count_of_expressions (e ∷ es) = omega (arith, count_of_expressions es)

pub term_step : (k : TermsNode) (term : List ℕ) (ps : List TypedPattern) (at inner : Place) (n : ℕ) (under : UnderNode) (old mid : List AskNode) →
    n ≡ length ps → mid ≡ old ++ (term_opening k term n at).asked → inner ≡ (term_opening k term n at).at → under ≡ (term_opening k term n at).under →
    mid ++ list_asks k under 0 (typed_list_of (all_typed_of ps)) inner ≡ old ++ term_asks k term (typed_list_of (all_typed_of ps)) at
term_step k term ps at inner n under old mid count asked inner_is under_is =
    let o : ℕ → OpeningNode = λ m. term_opening k term m at in
    ap (λ a. a ++ list_asks k under 0 (typed_list_of (all_typed_of ps)) inner) asked
    ∙ (append_assoc old (o n).asked (list_asks k under 0 (typed_list_of (all_typed_of ps)) inner)
    ∙ (ap (λ p. old ++ ((o n).asked ++ list_asks k under 0 (typed_list_of (all_typed_of ps)) p)) inner_is
    ∙ (ap (λ u. old ++ ((o n).asked ++ list_asks k u 0 (typed_list_of (all_typed_of ps)) (o n).at)) under_is
    ∙ ap (λ m. old ++ ((o m).asked ++ list_asks k (o m).under 0 (typed_list_of (all_typed_of ps)) (o m).at)) (count ∙ sym (count_of ps)))))

pub call_step : (k : TermsNode) (known : List AskNode) (term : List ℕ) (es : List TypedExpression) (n : ℕ) (given : ValueNode) →
    n ≡ length es → given ≡ values k known (typed_expression_list (map typed_expression_of es)) →
    term_value k term n given ≡ called k known term (typed_expression_list (map typed_expression_of es))
call_step k known term es n given count given_is =
    ap (λ m. term_value k term m given) (count ∙ sym (count_of_expressions es))
    ∙ ap (λ v. term_value k term (count_typed_expressions (typed_expression_list (map typed_expression_of es))) v) given_is
