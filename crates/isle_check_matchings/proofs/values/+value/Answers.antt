use Rattle.std.proofs.Common.{◌≡◌, map, ◌∙◌, rules}
use Rattle.std.proofs.lemmas.Result.{IfOk-weaker}
use Rattle.isle_check_typing.specs.expressions.TypedExpressions.{typed_expression_list}
use Rattle.isle_check_typing.specs.expressions.TypedView.{typed_expression_of}
use Rattle.isle_check_matchings.specs.Values.{called, term_value}
use Rattle.isle_check_matchings.specs.Views.{asks_of, terms_of, value_of}
use Rattle.isle_check_matchings.proofs.AskLemmas.{call_step}
use Rattle.isle_check_matchings.proofs.values.+value.Goals as goal

pub called-returns : goal.called-returns
called-returns t c =
    let k = terms_of c.args.terms in
    let known = asks_of c.args.known.now in
    let given = value_of c.in_ok-given.given in
    IfOk-weaker c.term_value.result (λ made. value_of made ≡ term_value k c.args.term.now c.len.result given)
    (λ made. value_of made ≡ called k known c.args.term.now (typed_expression_list (map typed_expression_of c.args.args.now.items)))
    (λ made e. e ∙ call_step k known c.args.term.now c.args.args.now.items c.len.result given (search rules) c.in_ok-given.ensures)
    c.term_value.ensures
