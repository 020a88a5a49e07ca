-- No program so far lacks the finding.
use Rattle.std.proofs.Common.{◌≡◌, drop, map}
use Rattle.std.specs.List.{list_any}
use Rattle.isle_program_findings.specs.Programs.{lacks, share_of}
use Rattle.isle_program_findings.proofs.programs.some_lacks.Given as goal

abbrev pub invariant-loop-share : goal.invariant-loop-share
invariant-loop-share l = list_any lacks (map share_of (drop l.share-index l.shares)) ≡ list_any lacks (map share_of l.shares)
