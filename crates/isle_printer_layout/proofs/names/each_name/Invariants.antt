-- The names on the tape are the last ones.
use Rattle.std.proofs.Common.{◌≡◌, drop}
use Rattle.isle_ast_names.specs.TreeView.{names_of}
use Rattle.isle_printer_layout.specs.NameShapes.{name_shapes}
use Rattle.isle_printer_layout.specs.Pieces.{put_before}
use Rattle.isle_printer_layout.proofs.names.each_name.Given as goal

abbrev pub invariant-loop-at : goal.invariant-loop-at
invariant-loop-at l = l.tape ≡ put_before (name_shapes (names_of (drop l.at l.idents))) l.fn.tape
