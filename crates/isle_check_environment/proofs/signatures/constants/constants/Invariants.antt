use Rattle.std.proofs.Common.{string_bytes, take}
use Rattle.std.specs.List.{flat_map}
use Rattle.isle_ast.specs.TreeView.{definitions_of}
use Rattle.isle_check_environment.specs.signatures.Entries.{Holds}
use Rattle.isle_check_environment.specs.signatures.Signatures.{constant_entry}
use Rattle.isle_check_environment.proofs.signatures.constants.constants.Given as goal

abbrev pub invariant-loop-def : goal.invariant-loop-def
invariant-loop-def l = Holds string_bytes l.types (flat_map constant_entry (definitions_of (take l.def-index l.defs)))
