use Rattle.std.proofs.Common.{◌≡◌, ◌*◌, ◌∷◌, ◌++◌, replicate, string_bytes}
use Rattle.isle_printer_layout.proofs.layout.put_new_line.Given as goal

abbrev pub invariant-loop : goal.invariant-loop
invariant-loop l = string_bytes l.out ≡ string_bytes l.fn.out ++ 10 ∷ replicate (4 * l.counter) 32
