use Rattle.std.proofs.Common.{◌++◌, List, take}
use Rattle.std.specs.List.{flat_map}
use Rattle.isle_ast.specs.TreeView.{definitions_of}
use Rattle.isle_check_environment.specs.signatures.Entries.{Entry, Holds}
use Rattle.isle_check_environment.specs.signatures.Signatures.{TermNode, declared_entry}
use Rattle.isle_check_environment.specs.signatures.Views.{term_of}
use Rattle.isle_check_environment.proofs.signatures.terms.add_declared.Given as goal

abbrev pub invariant-loop-def : goal.invariant-loop-def
invariant-loop-def l =
    (entries : List (Entry TermNode)) → Holds term_of l.fn.terms entries
    → Holds term_of l.terms (entries ++ flat_map declared_entry (definitions_of (take l.def-index l.defs)))
