-- The programs so far are checked.
use Rattle.std.proofs.Common.{drop, map}
use Rattle.isle_cli.specs.Arguments.{given_of}
use Rattle.isle_cli.specs.Sources.{source_of}
use Rattle.isle_check.specs.Programs.{IsToldIn, checked_of, read_parts}
use Rattle.isle_program_findings.proofs.ExaminedLemmas.{Goes-on}
use Rattle.isle_program_findings.specs.Programs.{part_of}
use Rattle.isle_check.proofs.programs.check_all.Given as goal

abbrev pub invariant-loop-part : goal.invariant-loop-part
invariant-loop-part l =
    Goes-on (IsToldIn (map given_of l.arguments)) (map source_of l.sources) (read_parts l.refusals (map part_of l.parts)) (map checked_of l.checked.items)
    (read_parts l.refusals (map part_of (drop l.part-index l.parts)))
