-- The value so far, or a later one, is the last.
use Rattle.std.proofs.Common.{◌≡◌, None, drop, map}
use Rattle.std.specs.Option.{option_copied}
use Rattle.isle_cli.specs.Arguments.{given_of, last_setting}
use Rattle.isle_cli.proofs.arguments.setting_of.Given as goal

abbrev pub invariant-loop-argument : goal.invariant-loop-argument
invariant-loop-argument l =
    last_setting l.option (option_copied l.value) (map given_of (drop l.argument-index l.arguments)) ≡ last_setting l.option None (map given_of l.arguments)
