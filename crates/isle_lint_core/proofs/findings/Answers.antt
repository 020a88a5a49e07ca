use Rattle.std.proofs.Common.{◌≡◌, false, rules, tests, List, map, subst, refl}
use Rattle.std.proofs.lemmas.List.Sorted.{IsPermutation-map}
use Rattle.std.specs.List.Sorted.{IsPermutation}
use Rattle.std.specs.Ordering.{is_lt, ordering_then}
use Rattle.std.specs.declared.cmp.Ordering.{Ordering}
use Rattle.std.specs.declared.cmp.Ordering.TheVariants.{Equal, Greater, Less}
use Rattle.isle_lint_core.specs.Finding.{Found, finding_of}
use Rattle.isle_lint_core.proofs.findings.Goals as goal

-- what isn't less by two comparisons isn't less by the first
first-not_less : (o p : Ordering) → is_lt (ordering_then o p) ≡ false → is_lt o ≡ false
first-not_less Less p not_less = not_less
first-not_less Equal p not_less = refl
first-not_less Greater p not_less = refl

pub returns-clause-exact : goal.returns-clause-exact
returns-clause-exact c =
    let P : List Found → Type 0 = λ found. IsPermutation found (map finding_of c.sort.new.self.items) in
    subst P c.in_ok-found.ensures (IsPermutation-map finding_of c.in_ok-found.found.items c.sort.new.self.items c.in_ok-sort.ensures.permutation)

pub returns-clause-ties : goal.returns-clause-ties
returns-clause-ties c = search (tests, rules)

pub returns-clause-in_order : goal.returns-clause-in_order
returns-clause-in_order c = let ties = returns-clause-ties c in λ k d above within. first-not_less _ _ (ties k d above within)
