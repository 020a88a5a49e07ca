use Rattle.std.proofs.Common.{◌≡◌, ◌++◌, drop, filter, map}
use Rattle.isle_cli.specs.Arguments.{given_of}
use Rattle.isle_lint.specs.Options.{is_on}
use Rattle.isle_lint.proofs.options.on_among.Given as goal

abbrev pub invariant-loop-lint : goal.invariant-loop-lint
invariant-loop-lint l =
    l.on.items ++ filter (is_on (map given_of l.arguments)) (drop l.lint-index l.lints) ≡ filter (is_on (map given_of l.arguments)) l.lints
