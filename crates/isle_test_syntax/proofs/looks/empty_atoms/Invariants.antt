-- There is an empty atom for each turn so far.
use Rattle.std.proofs.Common.{◌≡◌, [], replicate}
use Rattle.isle_printer_layout.specs.Sexp.{atom}
use Rattle.isle_printer_layout.specs.SexpView.{sexps_of}
use Rattle.isle_test_syntax.proofs.looks.empty_atoms.Given as goal

abbrev pub invariant-loop : goal.invariant-loop
invariant-loop l = sexps_of l.items.items ≡ replicate l.counter (atom [])
