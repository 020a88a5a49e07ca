-- The tags on the tape are the last ones.
use Rattle.std.proofs.Common.{◌≡◌, drop, map}
use Rattle.isle_ast_names.specs.TreeView.{names_of}
use Rattle.isle_printer.specs.DefinitionShapes.{tag_shape}
use Rattle.isle_printer_layout.specs.Pieces.{put_before}
use Rattle.isle_printer.proofs.printer.terms.each_tag.Given as goal

abbrev pub invariant-loop-at : goal.invariant-loop-at
invariant-loop-at l = l.tape ≡ put_before (map tag_shape (names_of (drop l.at l.tags))) l.fn.tape
