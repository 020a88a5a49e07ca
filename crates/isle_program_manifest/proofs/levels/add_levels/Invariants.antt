-- The levels so far are added.
use Rattle.std.proofs.Common.{◌≡◌, drop, map}
use Rattle.isle_cli.specs.Arguments.{given_of}
use Rattle.isle_program_manifest.specs.Levels.{name_level_of, with_levels}
use Rattle.isle_program_manifest.proofs.levels.add_levels.Given as goal

abbrev pub invariant-loop-level : goal.invariant-loop-level
invariant-loop-level l =
    with_levels (map given_of l.arguments.items) (map name_level_of (drop l.level-index l.levels))
    ≡ with_levels (map given_of l.initial.arguments.items) (map name_level_of l.levels)
