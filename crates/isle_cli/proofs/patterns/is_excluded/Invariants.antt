-- None of the patterns so far excludes the path.
use Rattle.std.proofs.Common.{◌≡◌, drop, map, string_bytes}
use Rattle.isle_cli.specs.Patterns.{is_excluded}
use Rattle.isle_cli.proofs.patterns.is_excluded.Given as goal

abbrev pub invariant-loop-pattern : goal.invariant-loop-pattern
invariant-loop-pattern l =
    is_excluded (map string_bytes (drop l.pattern-index l.patterns)) l.path ≡ is_excluded (map string_bytes l.patterns) l.path
