use Rattle.std.proofs.Common.{◌≡◌, [], map, take, drop}
use Rattle.isle_ast.specs.TreeView.{variant_of}
use Rattle.isle_check_environment.specs.Names.{Knows}
use Rattle.isle_check_environment.specs.Types.{is_type_in}
use Rattle.isle_check_declarations.specs.TypeFaults.{variant_name, variants_fault}
use Rattle.isle_check_declarations.proofs.types.variants_fault.Given as goal

abbrev pub invariant-loop-variant : goal.invariant-loop-variant
invariant-loop-variant l =
    Knows l.earlier (map variant_name (map variant_of (take l.variant-index l.variants)))
    × (variants_fault (is_type_in l.known) (map variant_name (map variant_of (take l.variant-index l.variants))) (map variant_of (drop l.variant-index l.variants))
    ≡ variants_fault (is_type_in l.known) [] (map variant_of l.variants))
