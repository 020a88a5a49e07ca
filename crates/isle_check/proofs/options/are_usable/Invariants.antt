use Rattle.std.proofs.Common.{◌≡◌, drop, map}
use Rattle.isle_cli.specs.Arguments.{given_of}
use Rattle.isle_check.specs.Options.{are_usable}
use Rattle.isle_check.proofs.options.are_usable.Given as goal

abbrev pub invariant-loop-argument : goal.invariant-loop-argument
invariant-loop-argument l = are_usable (map given_of (drop l.argument-index l.arguments)) ≡ are_usable (map given_of l.arguments)
