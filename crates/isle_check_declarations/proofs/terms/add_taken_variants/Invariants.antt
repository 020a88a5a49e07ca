use Rattle.std.proofs.Common.{◌≡◌, ◌++◌, List, drop}
use Rattle.isle_ast_names.specs.Tree.{Name}
use Rattle.isle_check_environment.specs.Names.{Knows}
use Rattle.isle_check_environment.specs.Views.{types_at}
use Rattle.isle_check_declarations.specs.TermFaults.{taken_variants, with_variants}
use Rattle.isle_check_declarations.specs.Views.{faults_of}
use Rattle.isle_check_declarations.proofs.terms.add_taken_variants.Given as goal

abbrev pub invariant-loop-ty : goal.invariant-loop-ty
invariant-loop-ty l =
    (earlier : List Name) → Knows l.fn.terms earlier
    → (terms : List Name) × Knows l.terms terms
    × (with_variants terms (types_at (drop l.ty-index l.types)) ≡ with_variants earlier (types_at l.types))
    × (faults_of l.found.items ++ taken_variants terms (types_at (drop l.ty-index l.types))
    ≡ faults_of l.fn.found.items ++ taken_variants earlier (types_at l.types))
