use Rattle.std.proofs.Common.{◌≡◌, arith, rules}
use Rattle.isle_base.specs.Steps.{AreWithin, Rises}
use Rattle.isle_program.specs.Openings.{openings}
use Rattle.isle_program.proofs.OpeningLemmas.{ascending}
use Rattle.isle_program.proofs.openings.openings_ahead.Goals as goal

pub returns-clause-exact : goal.returns-clause-exact
returns-clause-exact c = search rules

pub returns-clause-ascend : goal.returns-clause-ascend
returns-clause-ascend c =
    rw (returns-clause-exact c)
    (ascending c.args.scanner.size 0 0 0 c.args.scanner.coming (omega arith) (omega arith) (c.loop-ahead.invariant.first c.peek.ensures.rising) (c.loop-ahead.invariant.within c.peek.ensures.within.tokens))
