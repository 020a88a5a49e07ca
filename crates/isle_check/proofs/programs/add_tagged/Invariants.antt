-- The lines so far, and then those of the other findings, are all.
use Rattle.std.proofs.Common.{◌≡◌, ◌++◌, drop, map}
use Rattle.isle_cli.specs.Sources.{source_of}
use Rattle.isle_check.specs.Programs.{checked_of, once_of, tagged_lines}
use Rattle.isle_check.specs.ReportView.{lines_at}
use Rattle.isle_check.proofs.programs.add_tagged.Given as goal

abbrev pub invariant-loop-one : goal.invariant-loop-one
invariant-loop-one l =
    lines_at l.lines.items ++ tagged_lines l.format (map checked_of l.checked) (map source_of l.sources) (map once_of (drop l.one-index l.all))
    ≡ lines_at l.fn.lines.items ++ tagged_lines l.format (map checked_of l.checked) (map source_of l.sources) (map once_of l.all)
