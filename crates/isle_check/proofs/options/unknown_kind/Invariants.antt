-- The names so far are those of kinds.
use Rattle.std.proofs.Common.{◌≡◌, drop, map}
use Rattle.isle_program_manifest.specs.Levels.{name_level_of}
use Rattle.isle_check.specs.Options.{unknown_kind}
use Rattle.isle_check.proofs.options.unknown_kind.Given as goal

abbrev pub invariant-loop-level : goal.invariant-loop-level
invariant-loop-level l = unknown_kind (map name_level_of (drop l.level-index l.levels)) ≡ unknown_kind (map name_level_of l.levels)
