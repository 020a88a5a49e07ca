use Rattle.std.proofs.Common.{◌≡◌, drop, map}
use Rattle.isle_ast.specs.TreeView.{type_definition_of, variant_of}
use Rattle.isle_ast_names.specs.TreeView.{name_of}
use Rattle.isle_expand_warnings.specs.First.{first}
use Rattle.isle_expand_warnings.specs.Types.{variant_type}
use Rattle.isle_expand_warnings.proofs.types.variants_type.Given as goal

abbrev pub invariant-loop-variant : goal.invariant-loop-variant
invariant-loop-variant l =
    first (variant_type (name_of l.term).text l.number (type_definition_of l.type_def)) (map variant_of (drop l.variant-index l.variants))
    ≡ first (variant_type (name_of l.term).text l.number (type_definition_of l.type_def)) (map variant_of l.variants)
