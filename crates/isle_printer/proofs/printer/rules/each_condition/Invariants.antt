-- The conditions on the tape are the last ones.
use Rattle.std.proofs.Common.{◌≡◌, drop, map}
use Rattle.isle_ast_rules.specs.TreeView.{conditions_of}
use Rattle.isle_printer_layout.specs.Pieces.{put_before}
use Rattle.isle_printer.specs.RuleShapes.{condition_shape}
use Rattle.isle_printer.proofs.printer.rules.each_condition.Given as goal

abbrev pub invariant-loop-at : goal.invariant-loop-at
invariant-loop-at l = l.tape ≡ put_before (map condition_shape (conditions_of (drop l.at l.conditions))) l.fn.tape
