-- The items that are made, and those that are left, are all.
use Rattle.std.proofs.Common.{◌≡◌, ◌≤◌, ◌+◌, ◌*◌, ◌++◌}
use Rattle.isle_printer_layout.specs.Looks.{nodes, nodes_of_items}
use Rattle.isle_printer_layout.specs.Pieces.{begun}
use Rattle.isle_printer_layout.specs.Sexp.{sexps}
use Rattle.isle_printer_layout.specs.SexpView.{sexps_of}
use Rattle.isle_printer_layout.proofs.sexprs.+sexpr_of.Given as goal

abbrev pub decreases-sexpr_at : goal.decreases-sexpr_at
decreases-sexpr_at l = 2 * nodes (begun l.piece l.pieces.now)

abbrev pub decreases-sexprs_at : goal.decreases-sexprs_at
decreases-sexprs_at l = 2 * nodes_of_items (sexps l.pieces.now.0) + 1

abbrev pub invariant-sexprs_at-loop-piece : goal.invariant-sexprs_at-loop-piece
invariant-sexprs_at-loop-piece l = record {
  made : sexps_of l.items.items ++ l.pieces.0 ≡ l.fn.pieces.0;
  rest : l.pieces.1 ≡ l.fn.pieces.1;
  left : nodes_of_items (sexps l.pieces.0) ≤ nodes_of_items (sexps l.fn.pieces.0);
}

abbrev pub decreases-sexprs_at-loop-piece : goal.decreases-sexprs_at-loop-piece
decreases-sexprs_at-loop-piece l = nodes_of_items (sexps l.pieces.0)
