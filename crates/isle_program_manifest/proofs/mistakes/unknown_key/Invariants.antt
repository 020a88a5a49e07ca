-- No key so far is unknown.
use Rattle.std.proofs.Common.{◌≡◌, map}
use Rattle.toml.specs.View.{members_view}
use Rattle.isle_program_manifest.specs.Mistakes.{unknown_key}
use Rattle.isle_program_manifest.proofs.mistakes.unknown_key.Given as goal

abbrev pub invariant-members : goal.invariant-members
invariant-members l =
    (goal.iterator-members).can_next l.key-iterator × (goal.iterator-members).is_finite l.key-iterator
    × (unknown_key (map (λ key. key.now) l.known) (members_view l.key-iterator) ≡ unknown_key (map (λ key. key.now) l.known) (members_view l.table.entries))
