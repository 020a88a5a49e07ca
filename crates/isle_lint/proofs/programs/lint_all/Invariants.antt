-- The programs so far are linted.
use Rattle.std.proofs.Common.{drop, map}
use Rattle.isle_cli.specs.Sources.{source_of}
use Rattle.isle_lint.specs.Linted.{linted_of}
use Rattle.isle_lint.specs.Programs.{IsToldIn}
use Rattle.isle_program_findings.proofs.ExaminedLemmas.{Goes-on}
use Rattle.isle_program_findings.specs.Programs.{part_of}
use Rattle.isle_lint.proofs.programs.lint_all.Given as goal

abbrev pub invariant-loop-part : goal.invariant-loop-part
invariant-loop-part l =
    Goes-on (IsToldIn l.lints) (map source_of l.sources) (map part_of l.parts) (map linted_of l.linted.items) (map part_of (drop l.part-index l.parts))
