use Rattle.isle_check_matchings.specs.Matchings.{matching, matchings}
use Rattle.isle_check_rules.specs.Views.{typed_rules_of}
use Rattle.isle_check_matchings.specs.Views.{terms_of}
use Rattle.isle_check_matchings.proofs.RuleLemmas.{matchings_step}
use Rattle.isle_check_matchings.proofs.matchings.matchings.Goals as goal

pub loop-rule-preserved : goal.loop-rule-preserved
loop-rule-preserved c =
    matchings_step (matching (terms_of c.args.terms)) c.loop-rule.made.items c.push.new.self.items c.in_ok-matching.field-0 c.args.rules.now c.loop-rule.rule-index c.rule-item.result
    (matchings (terms_of c.args.terms) (typed_rules_of c.args.rules.now))
    c.loop-rule-test.true c.rule-item.is c.in_ok-matching.ensures c.in_ok-push.ensures.items c.loop-rule.invariant
