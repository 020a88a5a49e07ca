-- The values so far, and then the others, are all.
use Rattle.std.proofs.Common.{◌≡◌, ◌++◌, drop, map, string_bytes}
use Rattle.isle_cli.specs.Arguments.{given_of, setting_list}
use Rattle.isle_cli.proofs.arguments.settings_of.Given as goal

abbrev pub invariant-loop-argument : goal.invariant-loop-argument
invariant-loop-argument l =
    map string_bytes l.values.items ++ setting_list l.option (map given_of (drop l.argument-index l.arguments)) ≡ setting_list l.option (map given_of l.arguments)
