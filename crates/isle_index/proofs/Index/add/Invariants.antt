use Rattle.std.proofs.Common.{List, ◌++◌, take}
use Rattle.isle_ast.specs.Tree.{Definition}
use Rattle.isle_ast.specs.TreeView.{definitions_of}
use Rattle.isle_index.specs.Held.{IsIndexOf}
use Rattle.isle_index.proofs.Index.add.Given as goal

abbrev pub invariant-loop-def : goal.invariant-loop-def
invariant-loop-def l =
    (ds : List Definition) → IsIndexOf ds l.fn.self → IsIndexOf (ds ++ definitions_of (take l.def-index l.defs)) l.self
