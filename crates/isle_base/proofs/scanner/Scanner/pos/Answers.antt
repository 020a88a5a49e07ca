use Rattle.std.proofs.Common.{subst}
use Rattle.isle_base.specs.Steps.{IsWithin}
use Rattle.isle_base.proofs.Stepping.{view_within}
use Rattle.isle_base.proofs.scanner.Scanner.pos.Goals as goal

pub returns-clause-within : goal.returns-clause-within
returns-clause-within c = subst IsWithin c.self.view_is (view_within c.self.inside c.self.invariant)
