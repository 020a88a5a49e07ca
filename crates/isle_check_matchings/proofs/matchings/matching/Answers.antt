use Rattle.std.proofs.Common.{◌≡◌, [], refl, ap, ◌∙◌, rules}
use Rattle.isle_check_places.specs.Clashes.{clashes_after}
use Rattle.isle_check_places.specs.Settling.{most_sweeps, settle}
use Rattle.isle_check_places.specs.Views.{all_constrained_of, all_equalities_of}
use Rattle.isle_check_rules.specs.Views.{typed_rule_of}
use Rattle.isle_check_rules.specs.Warnings.{multi_by}
use Rattle.isle_check_matchings.specs.Matchings.{constraints_of, equalities_of}
use Rattle.isle_check_matchings.specs.RuleAsks.{rule_asks}
use Rattle.isle_check_matchings.specs.Views.{asks_of, terms_of}
use Rattle.isle_check_matchings.proofs.RuleLemmas.{matching_parts}
use Rattle.isle_check_matchings.proofs.matchings.matching.Goals as goal

pub returns : goal.returns
returns c =
    let k = terms_of c.args.terms in
    let rule = typed_rule_of c.args.rule.now in
    let asks = rule_asks k rule in
    let cs : all_constrained_of c.in_ok-constraints.constraints.items ≡ constraints_of asks =
    c.in_ok-constraints.ensures ∙ ap constraints_of c.in_ok-asks.ensures in
    let es : all_equalities_of c.in_ok-equal.equal.items ≡ equalities_of asks =
    c.in_ok-equal.ensures ∙ (ap (λ xs. equalities_of (asks_of xs)) c.deref.ensures.value ∙ ap equalities_of c.in_ok-asks.ensures) in
    matching_parts k rule asks _ refl (c.is_multi.ensures ∙ ap multi_by c.term.ensures) c.in_ok-has_several.ensures (search rules) refl
    (c.in_ok-clashes.ensures ∙ (ap (λ xs. clashes_after [] (all_constrained_of xs)) c.deref-2.ensures.value ∙ ap (λ x. clashes_after [] x) cs))
    (c.in_ok-settled.ensures
    ∙ (ap (λ x. settle most_sweeps x (all_equalities_of c.in_ok-equal.equal.items)) cs ∙ ap (λ x. settle most_sweeps (constraints_of asks) x) es))
