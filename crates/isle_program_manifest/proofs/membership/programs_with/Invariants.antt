-- The numbers so far, and then those of the other programs, are all.
use Rattle.std.proofs.Common.{◌≡◌, ◌++◌, drop, map, string_bytes}
use Rattle.isle_program_manifest.specs.Membership.{programs_with}
use Rattle.isle_program_manifest.proofs.membership.programs_with.Given as goal

abbrev pub invariant-loop-number : goal.invariant-loop-number
invariant-loop-number l =
    l.numbers.items ++ programs_with l.file l.number (map (λ paths. map string_bytes paths.items) (drop l.number l.programs))
    ≡ programs_with l.file 0 (map (λ paths. map string_bytes paths.items) l.programs)
