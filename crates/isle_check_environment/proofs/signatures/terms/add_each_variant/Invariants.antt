use Rattle.std.proofs.Common.{◌++◌, List, map, take}
use Rattle.isle_ast.specs.TreeView.{variant_of}
use Rattle.isle_ast_names.specs.TreeView.{name_of}
use Rattle.isle_check_environment.specs.signatures.Entries.{Entry, Holds}
use Rattle.isle_check_environment.specs.signatures.Signatures.{TermNode, variants_entries}
use Rattle.isle_check_environment.specs.signatures.Views.{term_of}
use Rattle.isle_check_environment.proofs.signatures.terms.add_each_variant.Given as goal

abbrev pub invariant-loop-variant : goal.invariant-loop-variant
invariant-loop-variant l =
    (entries : List (Entry TermNode)) → Holds term_of l.fn.terms entries
    → Holds term_of l.terms (entries ++ variants_entries (name_of l.enum_name) (map variant_of (take l.variant-index l.variants)))
