use Rattle.std.proofs.Common.{◌≡◌, ◌++◌, List, map, drop}
use Rattle.isle_ast.specs.TreeView.{variant_of}
use Rattle.isle_ast_names.specs.Tree.{Name}
use Rattle.isle_ast_names.specs.TreeView.{name_of}
use Rattle.isle_check_environment.specs.Names.{Knows}
use Rattle.isle_check_environment.specs.Terms.{full_names}
use Rattle.isle_check_environment.proofs.terms.add_variants.Given as goal

abbrev pub invariant-loop-variant : goal.invariant-loop-variant
invariant-loop-variant l =
    (known : List Name) → Knows l.fn.names known
    → (now : List Name) × Knows l.names now
    × (now ++ full_names (name_of l.enum_name) (map variant_of (drop l.variant-index l.variants))
    ≡ known ++ full_names (name_of l.enum_name) (map variant_of l.variants))
