-- The room that is left, and what the items that are left count, is the room at first and what all
-- items count, less 1. The looks so far, and the nodes that are left, are the looks at first and
-- all nodes. Each look but the first has taken one of the room.
use Rattle.std.proofs.Common.{◌≡◌, ◌≤◌, ◌+◌, drop}
use Rattle.isle_printer_layout.specs.Flat.{counted, counted_items}
use Rattle.isle_printer_layout.specs.Looks.{nodes, nodes_of_items}
use Rattle.isle_printer_layout.specs.Sexp.{sexps}
use Rattle.isle_printer_layout.specs.SexpView.{sexp_of, sexps_of}
use Rattle.isle_printer_layout.proofs.layout.+room_left.Given as goal

abbrev pub invariant-loop-item : goal.invariant-loop-item
invariant-loop-item l = record {
  answer :
      l.left + counted (sexp_of l.fn.sexpr)
      ≡ l.fn.room + counted_items (sexps (sexps_of (drop l.item-index l.item-items)));
  exact :
      l.looks.count + nodes_of_items (sexps (sexps_of (drop l.item-index l.item-items)))
      ≡ l.fn.looks.count + nodes (sexp_of l.fn.sexpr);
  at_most : l.looks.count + l.left ≤ l.fn.looks.count + l.fn.room;
  at_least : l.fn.looks.count + 1 ≤ l.looks.count;
}
