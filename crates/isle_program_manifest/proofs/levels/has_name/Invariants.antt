-- No argument so far has the name.
use Rattle.std.proofs.Common.{◌≡◌, drop, map}
use Rattle.std.specs.List.{list_any}
use Rattle.isle_cli.specs.Arguments.{given_of}
use Rattle.isle_program_manifest.specs.Levels.{is_naming}
use Rattle.isle_program_manifest.proofs.levels.has_name.Given as goal

abbrev pub invariant-loop-argument : goal.invariant-loop-argument
invariant-loop-argument l = list_any (is_naming l.name) (map given_of (drop l.argument-index l.arguments)) ≡ list_any (is_naming l.name) (map given_of l.arguments)
