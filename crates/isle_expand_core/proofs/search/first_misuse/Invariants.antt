use Rattle.std.proofs.Common.{◌≡◌, ◌≤◌, drop, length, map}
use Rattle.isle_ast.specs.TreeView.{definitions_of}
use Rattle.isle_expand_core.specs.Macros.{macros_in}
use Rattle.isle_expand_core.specs.Mentions.{mentions}
use Rattle.isle_expand_warnings.specs.First.{first}
use Rattle.isle_expand_core.specs.Search.{mention_misuse}
use Rattle.isle_expand_core.specs.Views.{begun_of}
use Rattle.isle_expand_core.proofs.search.first_misuse.Given as goal

abbrev pub invariant-loop-def : goal.invariant-loop-def
invariant-loop-def l = record {
  searched : first (mention_misuse (map begun_of l.templates) l.ends) (mentions l.place (definitions_of (drop l.def-index l.defs)))
      ≡ first (mention_misuse (map begun_of l.templates) l.ends) (mentions 0 (definitions_of l.defs));
  rest : drop l.place (map begun_of l.templates) ≡ macros_in (definitions_of (drop l.def-index l.defs));
  within : l.place ≤ length l.templates;
}
