use Rattle.std.proofs.Common.{◌≡◌, ◌++◌, map}
use Rattle.std.specs.List.{flat_map}
use Rattle.std.specs.Vec.Iter.{into_iter_items}
use Rattle.isle_lsp_diagnostics.specs.Diagnostics.{refusal_marks}
use Rattle.isle_lsp_diagnostics.specs.Marks.{mark_of}
use Rattle.isle_lsp_diagnostics.proofs.diagnostics.all_refusals.Given as goal

abbrev pub invariant-loop-refusal : goal.invariant-loop-refusal
invariant-loop-refusal l =
    map mark_of l.diagnostics.items ++ flat_map (refusal_marks l.text) (into_iter_items l.refusal-iterator)
    ≡ flat_map (refusal_marks l.text) l.fn.refusals.items
