-- The lines so far, and then those of the other files, are all.
use Rattle.std.proofs.Common.{◌≡◌, ◌++◌, drop, map, string_bytes}
use Rattle.isle_cli.specs.Sources.{source_of}
use Rattle.isle_lint_core.specs.Finding.{finding_of}
use Rattle.isle_lint.specs.Linted.{linted_of}
use Rattle.isle_lint.specs.Report.{sources_text}
use Rattle.isle_lint.proofs.report.add_sources.Given as goal

abbrev pub invariant-loop-file : goal.invariant-loop-file
invariant-loop-file l =
    string_bytes l.text ++ sources_text l.format (map linted_of l.linted) l.file (map source_of (drop l.file l.sources)) l.refusals (map finding_of l.found)
    ≡ string_bytes l.fn.text ++ sources_text l.format (map linted_of l.linted) 0 (map source_of l.sources) l.refusals (map finding_of l.found)
