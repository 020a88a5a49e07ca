use Rattle.std.proofs.Common.{◌≡◌, ◌++◌, drop, map}
use Rattle.isle_cli.specs.Sources.{source_of}
use Rattle.isle_check.specs.Report.{line_maps}
use Rattle.isle_check.proofs.report.line_maps.Given as goal

abbrev pub invariant-loop-source : goal.invariant-loop-source
invariant-loop-source l = l.maps.items ++ line_maps (map source_of (drop l.source-index l.sources)) ≡ line_maps (map source_of l.sources)
