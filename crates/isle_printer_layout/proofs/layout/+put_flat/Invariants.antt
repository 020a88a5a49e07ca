-- What is written, and then the items that are left and the end of the list, is what there was and
-- then all. The looks so far, and the nodes that are left, are the looks at first and all nodes.
use Rattle.std.proofs.Common.{◌≡◌, ◌≤◌, ◌+◌, ◌*◌, ◌++◌, string_bytes}
use Rattle.isle_printer_layout.specs.Flat.{flat, flat_behind}
use Rattle.isle_printer_layout.specs.Looks.{nodes, nodes_of_items}
use Rattle.isle_printer_layout.specs.Pieces.{begun}
use Rattle.isle_printer_layout.specs.Sexp.{list, sexps}
use Rattle.isle_printer_layout.proofs.layout.+put_flat.Given as goal

abbrev pub decreases-put_flat : goal.decreases-put_flat
decreases-put_flat l = 3 * nodes (begun l.piece l.pieces.now)

abbrev pub decreases-put_flat_item : goal.decreases-put_flat_item
decreases-put_flat_item l = 3 * nodes (begun l.piece l.pieces.now) + 1

abbrev pub decreases-put_flat_items : goal.decreases-put_flat_items
decreases-put_flat_items l = 3 * nodes_of_items (sexps l.pieces.now.0) + 2

abbrev pub invariant-put_flat_items-loop-item : goal.invariant-put_flat_items-loop-item
invariant-put_flat_items-loop-item l = record {
  written :
      string_bytes l.out ++ flat_behind (sexps l.pieces.0)
      ≡ string_bytes l.fn.out ++ flat (list (sexps l.fn.pieces.0));
  rest : l.pieces.1 ≡ l.fn.pieces.1;
  looks :
      l.looks.count + nodes_of_items (sexps l.pieces.0)
      ≡ l.fn.looks.count + nodes_of_items (sexps l.fn.pieces.0);
  none_taken : l.fn.looks.count ≤ l.looks.count;
}

abbrev pub decreases-put_flat_items-loop-item : goal.decreases-put_flat_items-loop-item
decreases-put_flat_items-loop-item l = nodes_of_items (sexps l.pieces.0)
