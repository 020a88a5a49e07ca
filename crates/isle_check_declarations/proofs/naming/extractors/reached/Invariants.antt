use Rattle.std.proofs.Common.{◌≡◌, ◌++◌, drop}
use Rattle.isle_check_environment.specs.Views.{extractors_at}
use Rattle.isle_check_declarations.specs.Views.{term_in}
use Rattle.isle_check_declarations.specs.naming.Extractors.{reached}
use Rattle.isle_check_declarations.proofs.naming.extractors.reached.Given as goal

abbrev pub invariant-loop-extractor : goal.invariant-loop-extractor
invariant-loop-extractor l =
    extractors_at l.found.items ++ reached (term_in l.terms) (extractors_at (drop l.extractor-index l.extractors))
    ≡ reached (term_in l.terms) (extractors_at l.extractors)
