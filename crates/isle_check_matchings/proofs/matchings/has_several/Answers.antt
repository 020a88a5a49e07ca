use Rattle.std.proofs.Common.{not, ◌==◌, length, refl, sym, ap, ◌∙◌}
use Rattle.std.proofs.lemmas.List.{length-map}
use Rattle.isle_check_rules.specs.Views.{typed_rule_of, typed_rules_of, warning_of}
use Rattle.isle_check_rules.specs.Warnings.{multi_extractors}
use Rattle.isle_check_environment.specs.signatures.Views.{environment_of}
use Rattle.isle_check_matchings.specs.Views.{terms_of}
use Rattle.isle_check_matchings.proofs.RuleLemmas.{several_found}
use Rattle.isle_check_matchings.proofs.matchings.has_several.Goals as goal

pub returns : goal.returns
returns c =
    let env = environment_of c.args.terms.env.now in
    ap not
    (c.are_none.ensures
    ∙ (ap (λ n. n == 0) (sym (length-map c.in_ok-found.found.items warning_of))
    ∙ ap (λ ws. length ws == 0) (c.in_ok-found.ensures ∙ ap (λ rs. multi_extractors env (typed_rules_of rs)) c.from_ref.ensures.value)))
    ∙ several_found (terms_of c.args.terms) env (typed_rule_of c.args.rule.now) refl
