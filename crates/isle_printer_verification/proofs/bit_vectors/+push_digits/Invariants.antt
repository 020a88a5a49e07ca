use Rattle.isle_printer_verification.proofs.bit_vectors.+push_digits.Given as goal

abbrev pub decreases-push_digits : goal.decreases-push_digits
decreases-push_digits l = l.val
