-- The names so far are those of lints.
use Rattle.std.proofs.Common.{◌≡◌, drop, map}
use Rattle.isle_program_manifest.specs.Levels.{name_level_of}
use Rattle.isle_lint.specs.Options.{unknown_lint}
use Rattle.isle_lint.proofs.options.unknown_lint.Given as goal

abbrev pub invariant-loop-level : goal.invariant-loop-level
invariant-loop-level l = unknown_lint (map name_level_of (drop l.level-index l.levels)) ≡ unknown_lint (map name_level_of l.levels)
