use Rattle.std.proofs.Common.{◌≡◌, drop, map}
use Rattle.isle_ast.specs.TreeView.{definitions_of}
use Rattle.isle_expand_core.specs.Depth.{deep_at}
use Rattle.isle_expand_core.specs.Views.{begun_of}
use Rattle.isle_expand_warnings.specs.First.{first}
use Rattle.isle_expand_core.proofs.depth.deep_among.Given as goal

abbrev pub invariant-loop-def : goal.invariant-loop-def
invariant-loop-def l =
    first (deep_at (map begun_of l.templates) l.reaches) (definitions_of (drop l.def-index l.defs))
    ≡ first (deep_at (map begun_of l.templates) l.reaches) (definitions_of l.defs)
