use Rattle.std.proofs.Common.{refl, rules}
use Rattle.isle_test_syntax.proofs.Gathered.{last_left}
use Rattle.isle_test_syntax.proofs.walks.last_term.Goals as goal

pub returns : goal.returns
returns c =
    let left = last_left (λ f. f.0) _ (λ f head g call. let called = call.called in search rules) _ _ _ refl c.terms.ensures.called in
    search (rules, left)
