-- The names of the programs so far are added.
use Rattle.std.proofs.Common.{◌≡◌, [], drop, map, string_bytes}
use Rattle.isle_program_findings.specs.Programs.{names_after, share_of}
use Rattle.isle_program_findings.proofs.programs.names_with.Given as goal

abbrev pub invariant-loop-share : goal.invariant-loop-share
invariant-loop-share l = names_after (string_bytes l.names) (map share_of (drop l.share-index l.shares)) ≡ names_after [] (map share_of l.shares)
