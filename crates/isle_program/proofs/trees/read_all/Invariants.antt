use Rattle.std.proofs.Common.{map, take}
use Rattle.isle_ast.specs.TreeView.{definitions_of}
use Rattle.isle_cli.specs.Sources.{source_of}
use Rattle.isle_program.specs.Reading.{IsReading}
use Rattle.isle_program.proofs.trees.read_all.Given as goal

abbrev pub invariant-loop-file : goal.invariant-loop-file
invariant-loop-file l = IsReading (map source_of (take l.file l.sources)) (definitions_of l.reading.defs.items) l.reading.refusals.items
