use Rattle.std.proofs.Common.{◌≡◌, ◌++◌, drop, string_bytes}
use Rattle.isle_ast.specs.TreeView.{definitions_of}
use Rattle.isle_encoding.specs.Encoded.{definitions, encoded}
use Rattle.isle_encoding.proofs.encode.Given as goal

abbrev pub invariant-loop-def : goal.invariant-loop-def
invariant-loop-def l = string_bytes l.out ++ definitions (definitions_of (drop l.def-index l.defs)) ≡ encoded (definitions_of l.defs)
