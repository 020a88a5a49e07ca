use Rattle.std.proofs.Common.{◌≡◌, ◌++◌, drop, filter}
use Rattle.isle_c.specs.Programs.{is_chosen}
use Rattle.isle_c.proofs.programs.lints_among.Given as goal

abbrev pub invariant-loop-lint : goal.invariant-loop-lint
invariant-loop-lint l = l.chosen.items ++ filter (is_chosen l.all) (drop l.lint-index l.lints) ≡ filter (is_chosen l.all) l.lints
