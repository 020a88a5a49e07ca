use Rattle.std.proofs.Common.{◌≡◌, ◌++◌, drop, map}
use Rattle.std.specs.List.{All}
use Rattle.isle_lsp_calls.specs.Outlines.{IsOutline, outlined}
use Rattle.isle_lsp_calls.specs.Sources.{source_of}
use Rattle.isle_lsp_calls.proofs.outlines.outlines.Given as goal

abbrev pub invariant-loop-source : goal.invariant-loop-source
invariant-loop-source l = record {
  outlines : All IsOutline l.outlines.items;
  texts : map outlined l.outlines.items ++ map source_of (drop l.source-index l.program) ≡ map source_of l.program;
}
