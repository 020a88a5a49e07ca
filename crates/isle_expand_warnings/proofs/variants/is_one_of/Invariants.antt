use Rattle.std.proofs.Common.{◌≡◌, drop, map}
use Rattle.std.specs.List.{list_any}
use Rattle.isle_ast.specs.TreeView.{type_definition_of, variant_of}
use Rattle.isle_ast_names.specs.TreeView.{name_of}
use Rattle.isle_expand_warnings.specs.Variants.{is_variant}
use Rattle.isle_expand_warnings.proofs.variants.is_one_of.Given as goal

abbrev pub invariant-loop-variant : goal.invariant-loop-variant
invariant-loop-variant l =
    list_any (is_variant (name_of l.term).text (type_definition_of l.type_def)) (map variant_of (drop l.variant-index l.variants))
    ≡ list_any (is_variant (name_of l.term).text (type_definition_of l.type_def)) (map variant_of l.variants)
