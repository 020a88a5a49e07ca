use Rattle.std.proofs.Common.{◌≡◌, ◌++◌, List, drop}
use Rattle.isle_ast_names.specs.Tree.{Name}
use Rattle.isle_check_environment.specs.Names.{Knows}
use Rattle.isle_check_environment.specs.Views.{extractors_at}
use Rattle.isle_check_declarations.specs.Views.{faults_of, term_in}
use Rattle.isle_check_declarations.specs.naming.Extractors.{template_names, wrong_extractors}
use Rattle.isle_check_declarations.proofs.naming.extractors.add_wrong_extractors.Given as goal

abbrev pub invariant-loop-extractor : goal.invariant-loop-extractor
invariant-loop-extractor l =
    (earlier : List Name) → Knows l.fn.templates earlier
    → (now : List Name) × Knows l.templates now
    × (template_names (term_in l.terms) now (extractors_at (drop l.extractor-index l.extractors))
    ≡ template_names (term_in l.terms) earlier (extractors_at l.extractors))
    × (faults_of l.found.items ++ wrong_extractors (term_in l.terms) now (extractors_at (drop l.extractor-index l.extractors))
    ≡ faults_of l.fn.found.items ++ wrong_extractors (term_in l.terms) earlier (extractors_at l.extractors))
