use Rattle.std.proofs.Common.{Some, string_bytes}
use Rattle.isle_lsp_features.proofs.Growing.{Added}
use Rattle.isle_lsp_features.proofs.pieces.add_text.Given as goal

abbrev pub invariant-loop-left : goal.invariant-loop-left
invariant-loop-left l = Added l.file l.text l.left (Some (string_bytes l.piece)) l.fn.index l.index l.refusals.items

abbrev pub decreases-loop-left : goal.decreases-loop-left
decreases-loop-left l = l.left
