use Rattle.std.proofs.Common.{◌≡◌, OnOk, subst, ap, ◌∙◌, rules}
use Rattle.isle_check_places.specs.UnderView.{under_of}
use Rattle.isle_check_places.specs.Views.{place_of}
use Rattle.isle_check_matchings.specs.Views.{asks_of, terms_of}
use Rattle.isle_check_matchings.proofs.AskLemmas.{term_step}
use Rattle.isle_check_matchings.proofs.asks.+pattern.Goals as goal

pub add_term_asks-returns : goal.add_term_asks-returns
add_term_asks-returns t c =
    subst (λ r. OnOk c.add_list_asks.result (asks_of c.add_list_asks.new.asks.items ≡ r))
    (term_step (terms_of c.args.terms) c.args.term.now c.args.args.now.items (place_of c.args.at.now) (place_of c.deref.result.now) c.len.result (under_of c.in_ok-opening.opening.under)
    (asks_of c.args.asks.now.items) (asks_of c.term_opening.new.asks.items)
    (search rules) c.in_ok-opening.ensures.asked (ap place_of c.deref.ensures.value ∙ c.in_ok-opening.ensures.at) c.in_ok-opening.ensures.under)
    c.add_list_asks.ensures
