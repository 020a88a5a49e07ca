use Rattle.std.proofs.Common.{subst}
use Rattle.isle_base.specs.Steps.{IsWithin, Rises}
use Rattle.isle_base.proofs.Stepping.{view_within, view_rises}
use Rattle.isle_base.proofs.scanner.Scanner.peek.Goals as goal

pub returns-clause-within : goal.returns-clause-within
returns-clause-within c = subst IsWithin c.self.view_is (view_within c.self.inside c.self.invariant)

pub returns-clause-rising : goal.returns-clause-rising
returns-clause-rising c = subst (λ f. Rises 0 f.coming) c.self.view_is (view_rises c.self.inside c.self.invariant)
