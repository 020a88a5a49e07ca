use Rattle.std.proofs.Common.{◌≡◌, ◌++◌, drop, map, string_bytes}
use Rattle.isle_cli.specs.Sources.{source_of}
use Rattle.isle_program.specs.reports.Refusals.{told_refusals}
use Rattle.isle_program.proofs.reports.refusals.told_refusals.Given as goal

abbrev pub invariant-loop-file : goal.invariant-loop-file
invariant-loop-file l =
    string_bytes l.lines ++ told_refusals l.format l.file (map source_of (drop l.file l.sources)) l.refusals
    ≡ told_refusals l.format 0 (map source_of l.sources) l.refusals
