-- The names so far have levels.
use Rattle.std.proofs.Common.{◌≡◌}
use Rattle.toml.specs.View.{members_view}
use Rattle.isle_program_manifest.specs.Mistakes.{in_levels}
use Rattle.isle_program_manifest.proofs.mistakes.in_levels.Given as goal

abbrev pub invariant-members : goal.invariant-members
invariant-members l =
    (goal.iterator-members).can_next l.name-iterator × (goal.iterator-members).is_finite l.name-iterator
    × (in_levels l.tool (members_view l.name-iterator) ≡ in_levels l.tool (members_view l.names.entries))
