-- No path so far is the file.
use Rattle.std.proofs.Common.{◌≡◌, drop, map, string_bytes}
use Rattle.isle_program_manifest.specs.Membership.{has_file}
use Rattle.isle_program_manifest.proofs.membership.has_file.Given as goal

abbrev pub invariant-loop-path : goal.invariant-loop-path
invariant-loop-path l = has_file l.file (map string_bytes (drop l.path-index l.paths)) ≡ has_file l.file (map string_bytes l.paths)
