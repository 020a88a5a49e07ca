use Rattle.std.proofs.Common.{◌≡◌, drop}
use Rattle.isle_printer_layout.proofs.SameLists.{item_lists}
use Rattle.isle_printer_layout.proofs.sexpr.+same.Given as goal

abbrev pub invariant-same_items-loop-i : goal.invariant-same_items-loop-i
invariant-same_items-loop-i l = item_lists (drop l.i l.items.items) (drop l.i l.others.items) ≡ item_lists l.items.items l.others.items
