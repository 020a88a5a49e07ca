use Rattle.std.proofs.Common.{◌≡◌, ◌++◌, List, map, drop}
use Rattle.isle_ast.specs.TreeView.{type_definition_of, variant_of}
use Rattle.isle_ast_names.specs.Tree.{Name}
use Rattle.isle_check_environment.specs.Names.{Knows}
use Rattle.isle_check_declarations.specs.TermFaults.{free_variants, taken_variant}
use Rattle.isle_check_declarations.proofs.terms.add_taken_variant.Given as goal

abbrev pub invariant-loop-variant : goal.invariant-loop-variant
invariant-loop-variant l =
    (earlier : List Name) → Knows l.fn.terms earlier
    → (terms : List Name) × Knows l.terms terms
    × (l.found.items ≡ l.fn.found.items)
    × (terms ++ free_variants (type_definition_of l.ty).name terms (map variant_of (drop l.variant-index l.variants))
    ≡ earlier ++ free_variants (type_definition_of l.ty).name earlier (map variant_of l.variants))
    × (taken_variant (type_definition_of l.ty) terms (map variant_of (drop l.variant-index l.variants))
    ≡ taken_variant (type_definition_of l.ty) earlier (map variant_of l.variants))
