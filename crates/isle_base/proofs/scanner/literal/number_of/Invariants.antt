use Rattle.isle_base.proofs.Numbers.{Reading}
use Rattle.isle_base.proofs.scanner.literal.number_of.Given as goal

abbrev pub invariant-loop-byte : goal.invariant-loop-byte
invariant-loop-byte l = Reading l.radix l.run l.byte-index l.number l.is_empty
