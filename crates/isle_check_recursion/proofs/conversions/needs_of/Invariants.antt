use Rattle.std.proofs.Common.{◌≡◌, ◌++◌, drop, map}
use Rattle.isle_check_recursion.specs.Conversions.{needs_of}
use Rattle.isle_check_environment.specs.Views.{converters_at}
use Rattle.isle_check_environment.specs.signatures.ByTexts.{get_by_texts}
use Rattle.isle_check_environment.specs.signatures.Views.{environment_of}
use Rattle.isle_check_recursion.proofs.conversions.needs_of.Given as goal

abbrev pub invariant-loop-converter : goal.invariant-loop-converter
invariant-loop-converter l =
    map (λ v. v.items) l.found.items
    ++ needs_of (get_by_texts l.numbers) (environment_of l.env).terms (converters_at (drop l.converter-index l.converters))
    ≡ needs_of (get_by_texts l.numbers) (environment_of l.env).terms (converters_at l.converters)
