-- The characters so far are written.
use Rattle.std.proofs.Common.{◌≡◌, map, string_bytes}
use Rattle.std.specs.List.{flat_map}
use Rattle.isle_program.specs.reports.Annotations.{escaped_char}
use Rattle.isle_program.proofs.reports.annotations.escaped_text.Given as goal

abbrev pub invariant-loop-char : goal.invariant-loop-char
invariant-loop-char l = string_bytes l.escaped ≡ flat_map (escaped_char l.is_property) (map (λ c. c) l.yielded)
