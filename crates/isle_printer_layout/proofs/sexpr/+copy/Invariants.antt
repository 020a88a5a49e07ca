use Rattle.std.proofs.Common.{◌≡◌, take}
use Rattle.isle_printer_layout.specs.SexpView.{sexps_of}
use Rattle.isle_printer_layout.proofs.sexpr.+copy.Given as goal

abbrev pub invariant-copy_items-loop-item : goal.invariant-copy_items-loop-item
invariant-copy_items-loop-item l = sexps_of l.copies.items ≡ sexps_of (take l.item-index l.item-items)
