use Rattle.std.proofs.Common.{◌≡◌, ◌++◌, drop, map, string_bytes}
use Rattle.isle_cli.specs.Sources.{source_of}
use Rattle.isle_expand_warnings.specs.Warnings.{warnings_of}
use Rattle.isle_expand.specs.Expansion.{warning_lines}
use Rattle.isle_expand.proofs.expansion.warning_lines.Given as goal

abbrev pub invariant-loop-warning : goal.invariant-loop-warning
invariant-loop-warning l =
    string_bytes l.lines ++ warning_lines (map source_of l.sources) (warnings_of (drop l.warning-index l.warnings))
    ≡ warning_lines (map source_of l.sources) (warnings_of l.warnings)
