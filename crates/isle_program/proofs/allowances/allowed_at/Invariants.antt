use Rattle.std.proofs.Common.{◌≡◌, ◌++◌, List, drop, map}
use Rattle.isle_program.specs.Allowances.{AllowEach, Allowance, allowance_of}
use Rattle.isle_program.proofs.allowances.allowed_at.Given as goal

abbrev pub invariant-loop-opening : goal.invariant-loop-opening
invariant-loop-opening l =
    (more : List Allowance) → AllowEach l.text (drop l.opening-index l.openings) more → AllowEach l.text l.openings (map allowance_of l.list.items ++ more)
