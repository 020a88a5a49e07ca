-- The paths so far are added.
use Rattle.std.proofs.Common.{◌≡◌, drop, map, string_bytes}
use Rattle.isle_program_manifest.specs.Membership.{all_added}
use Rattle.isle_program_manifest.proofs.membership.add_all.Given as goal

abbrev pub invariant-loop-path : goal.invariant-loop-path
invariant-loop-path l =
    all_added (map string_bytes l.paths.items) (map string_bytes (drop l.path-index l.more)) ≡ all_added (map string_bytes l.initial.paths.items) (map string_bytes l.more)
