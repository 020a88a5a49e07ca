use Rattle.std.proofs.Common.{◌≡◌, ap, ◌∙◌}
use Rattle.std.proofs.lemmas.Result.{IfOk-weaker}
use Rattle.isle_ast.specs.TreeView.{definitions_of}
use Rattle.isle_check_overlaps.specs.Faults as faults
use Rattle.isle_check_overlaps.specs.Views as seen
use Rattle.isle_check_rules.specs.Views.{typed_rules_of}
use Rattle.isle_check_environment.specs.signatures.Views.{environment_of}
use Rattle.isle_check_matchings.specs.Infallible.{program_terms}
use Rattle.isle_check_matchings.specs.Matchings.{matchings, rule_overlaps}
use Rattle.isle_check_matchings.proofs.RuleLemmas.{terms_known}
use Rattle.isle_check_matchings.proofs.matchings.rule_overlaps.Goals as goal

pub returns : goal.returns
returns c =
    let env = environment_of c.args.env.now in
    let ds = definitions_of c.args.defs.now in
    let rules = typed_rules_of c.args.rules.now in
    IfOk-weaker c.compare.result (λ made. seen.comparison_of made ≡ faults.comparison_of env.terms (seen.matchings_of c.deref.result.now))
    (λ made. seen.comparison_of made ≡ rule_overlaps (program_terms env ds) rules)
    (λ made e. e
    ∙ ap (faults.comparison_of env.terms) (ap seen.matchings_of c.deref.ensures.value
    ∙ (c.in_ok-made.ensures ∙ ap (λ k. matchings k rules) (terms_known env ds c.in_ok-infallible.infallible c.in_ok-infallible.ensures))))
    c.compare.ensures
