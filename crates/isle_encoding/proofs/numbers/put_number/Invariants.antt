use Rattle.std.proofs.Common.{◌≡◌, ◌++◌, string_bytes}
use Rattle.isle_encoding.specs.Numbers.{number}
use Rattle.isle_encoding.proofs.numbers.put_number.Given as goal

abbrev pub invariant-loop-rest : goal.invariant-loop-rest
invariant-loop-rest l = string_bytes l.out ++ number l.rest ≡ string_bytes l.fn.out ++ number l.fn.value

abbrev pub decreases-loop-rest : goal.decreases-loop-rest
decreases-loop-rest l = l.rest
