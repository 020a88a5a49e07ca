use Rattle.std.proofs.Common.{drop}
use Rattle.isle_check_environment.specs.Views.{converters_at}
use Rattle.isle_check_environment.specs.signatures.Views.{Converts}
use Rattle.isle_check_environment.proofs.signatures.converters.terms_of.Given as goal

abbrev pub invariant-loop-at : goal.invariant-loop-at
invariant-loop-at l = Converts l.terms (converters_at (drop l.at l.converters))
