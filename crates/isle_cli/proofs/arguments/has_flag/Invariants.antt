-- No argument so far is the option.
use Rattle.std.proofs.Common.{◌≡◌, drop, map}
use Rattle.isle_cli.specs.Arguments.{given_of, gives_flag}
use Rattle.isle_cli.proofs.arguments.has_flag.Given as goal

abbrev pub invariant-loop-argument : goal.invariant-loop-argument
invariant-loop-argument l = gives_flag l.flag (map given_of (drop l.argument-index l.arguments)) ≡ gives_flag l.flag (map given_of l.arguments)
