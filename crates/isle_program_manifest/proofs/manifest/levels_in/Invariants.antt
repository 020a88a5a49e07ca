-- The levels so far, and then those of the other names, are all.
use Rattle.std.proofs.Common.{◌≡◌, ◌++◌, map}
use Rattle.toml.specs.View.{members_view}
use Rattle.isle_program_manifest.specs.Levels.{levels, name_level_of}
use Rattle.isle_program_manifest.proofs.manifest.levels_in.Given as goal

abbrev pub invariant-members : goal.invariant-members
invariant-members l =
    (goal.iterator-members).can_next l.name-iterator × (goal.iterator-members).is_finite l.name-iterator
    × (map name_level_of l.levels.items ++ levels (members_view l.name-iterator) ≡ levels (members_view l.table.entries))
