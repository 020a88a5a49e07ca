-- The patterns on the tape are the last ones.
use Rattle.std.proofs.Common.{◌≡◌, drop}
use Rattle.isle_ast_rules.specs.TreeView.{pattern_list_of, patterns_of}
use Rattle.isle_printer_layout.specs.Pieces.{put_before}
use Rattle.isle_printer.specs.RuleShapes.{pattern_shapes}
use Rattle.isle_printer.proofs.printer.patterns.+patterns.Given as goal

abbrev pub invariant-each_pattern-loop-at : goal.invariant-each_pattern-loop-at
invariant-each_pattern-loop-at l =
    l.tape ≡ put_before (pattern_shapes (pattern_list_of (patterns_of (drop l.at l.nodes.items)))) l.fn.tape
