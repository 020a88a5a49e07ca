-- The paths of the programs so far are added.
use Rattle.std.proofs.Common.{◌≡◌, drop, map, string_bytes}
use Rattle.isle_program_manifest.specs.Membership.{union_added, union_with}
use Rattle.isle_program_manifest.proofs.membership.union_with.Given as goal

abbrev pub invariant-loop-paths : goal.invariant-loop-paths
invariant-loop-paths l =
    union_added l.file (map string_bytes l.union.items) (map (λ paths. map string_bytes paths.items) (drop l.paths-index l.programs))
    ≡ union_with l.file (map (λ paths. map string_bytes paths.items) l.programs)
