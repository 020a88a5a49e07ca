use Rattle.std.proofs.Common.{Some, string_bytes}
use Rattle.isle_lsp_colours.proofs.Pieces.{Added}
use Rattle.isle_lsp_colours.proofs.known.classes_of.Given as goal

abbrev pub invariant-loop-left : goal.invariant-loop-left
invariant-loop-left l = Added l.text l.left (Some (string_bytes l.piece)) l.initial.classes.items l.classes.items

abbrev pub decreases-loop-left : goal.decreases-loop-left
decreases-loop-left l = l.left
