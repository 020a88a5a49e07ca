use Rattle.std.proofs.Common.{◌≡◌, drop}
use Rattle.std.specs.List.{list_any}
use Rattle.std.specs.Option.{option_map}
use Rattle.isle_ast.specs.TreeView.{definitions_of}
use Rattle.isle_ast_names.specs.TreeView.{name_of}
use Rattle.isle_expand_warnings.specs.Warnings.{is_conversion}
use Rattle.isle_expand_warnings.proofs.conversions.converts.Given as goal

abbrev pub invariant-loop-def : goal.invariant-loop-def
invariant-loop-def l =
    list_any (is_conversion (name_of l.ty).text (option_map (λ w. (name_of w.now).text) l.wanted)) (definitions_of (drop l.def-index l.defs))
    ≡ list_any (is_conversion (name_of l.ty).text (option_map (λ w. (name_of w.now).text) l.wanted)) (definitions_of l.defs)
