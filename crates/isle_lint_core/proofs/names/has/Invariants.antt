use Rattle.std.proofs.Common.{◌≡◌, drop}
use Rattle.isle_lint_core.specs.Names.{has, names_at}
use Rattle.isle_lint_core.proofs.names.has.Given as goal

abbrev pub invariant-loop-name : goal.invariant-loop-name
invariant-loop-name l = has (names_at (drop l.name-index l.names)) l.text ≡ has (names_at l.names) l.text
