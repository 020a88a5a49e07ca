use Rattle.std.proofs.Common.{refl, rules}
use Rattle.isle_test_syntax.proofs.Gathered.{any_left}
use Rattle.isle_test_syntax.specs.Walks.{is_of_symbol}
use Rattle.isle_test_syntax.proofs.walks.mentions.Goals as goal

pub returns : goal.returns
returns c =
    let left = any_left (λ f. f.0) (λ f. f.1.now.now) is_of_symbol _ (λ f head g call. let called = call.called in let shows = call.shows in search rules) _ _ _ refl c.terms.ensures.called in
    search (rules, left)
