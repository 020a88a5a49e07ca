use Rattle.std.proofs.Common.{take}
use Rattle.isle_check_environment.specs.Views.{decls_at}
use Rattle.isle_check_recursion.specs.Recursion.{numbered}
use Rattle.isle_check_environment.specs.signatures.Entries.{Holds}
use Rattle.isle_check_recursion.proofs.uses.numbers.Given as goal

abbrev pub invariant-loop-number : goal.invariant-loop-number
invariant-loop-number l = Holds (λ n. n) l.numbers (numbered 0 (decls_at (take l.number l.decls)))
