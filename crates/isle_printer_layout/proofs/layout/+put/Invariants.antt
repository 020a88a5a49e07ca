-- What is written, and then the items that are left and the end of the list, is what there was and
-- then all. The text is longer than the level, since each level has an open parenthesis in it. The
-- looks so far, and the nodes that are left, are the looks at first and all nodes.
use Rattle.std.proofs.Common.{◌≡◌, ◌≤◌, ◌<◌, ◌+◌, ◌*◌, ◌++◌, string_bytes, string_len}
use Rattle.isle_printer_layout.specs.Layout.{layout_broken, layout_behind}
use Rattle.isle_printer_layout.specs.Looks.{nodes, nodes_of_items}
use Rattle.isle_printer_layout.specs.Pieces.{begun}
use Rattle.isle_printer_layout.specs.Sexp.{sexps}
use Rattle.isle_printer_layout.proofs.layout.+put.Given as goal

abbrev pub decreases-put_node : goal.decreases-put_node
decreases-put_node l = 3 * nodes (begun l.piece l.pieces.now)

abbrev pub decreases-put_item : goal.decreases-put_item
decreases-put_item l = 3 * nodes (begun l.piece l.pieces.now) + 1

abbrev pub decreases-put_broken : goal.decreases-put_broken
decreases-put_broken l = 3 * nodes_of_items (sexps l.pieces.now.0) + 2

abbrev pub invariant-put_broken-loop-item : goal.invariant-put_broken-loop-item
invariant-put_broken-loop-item l = record {
  nested : l.level < string_len l.out;
  written :
      string_bytes l.out ++ layout_behind l.width (sexps l.pieces.0) l.level
      ≡ string_bytes l.fn.out ++ layout_broken l.width (sexps l.fn.pieces.0) l.fn.room l.level;
  rest : l.pieces.1 ≡ l.fn.pieces.1;
  looks :
      l.looks.count + nodes_of_items (sexps l.pieces.0)
      ≡ l.fn.looks.count + nodes_of_items (sexps l.fn.pieces.0);
  none_taken : l.fn.looks.count ≤ l.looks.count;
}

abbrev pub decreases-put_broken-loop-item : goal.decreases-put_broken-loop-item
decreases-put_broken-loop-item l = nodes_of_items (sexps l.pieces.0)
