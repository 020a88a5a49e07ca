use Rattle.std.proofs.Common.{◌≡◌, ℕ, List, drop}
use Rattle.isle_check_recursion.specs.Conversions.{number_from}
use Rattle.isle_check_environment.specs.Views.{converters_at}
use Rattle.isle_check_environment.specs.signatures.ByTexts.{get_by_texts}
use Rattle.isle_check_recursion.proofs.conversions.numbers.Given as goal

abbrev pub invariant-loop-number : goal.invariant-loop-number
invariant-loop-number l =
    (inner outer : List ℕ) → get_by_texts l.numbers inner outer ≡ number_from l.number (converters_at (drop l.number l.converters)) inner outer
