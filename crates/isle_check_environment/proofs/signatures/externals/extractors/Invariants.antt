use Rattle.std.proofs.Common.{take}
use Rattle.std.specs.List.{flat_map}
use Rattle.isle_ast.specs.TreeView.{definitions_of}
use Rattle.isle_check_environment.specs.Names.{Knows}
use Rattle.isle_check_environment.specs.signatures.Signatures.{extractor_name}
use Rattle.isle_check_environment.proofs.signatures.externals.extractors.Given as goal

abbrev pub invariant-loop-def : goal.invariant-loop-def
invariant-loop-def l = Knows l.names (flat_map extractor_name (definitions_of (take l.def-index l.defs)))
