-- No entry so far covers the path.
use Rattle.std.proofs.Common.{◌≡◌, drop, map}
use Rattle.std.specs.List.{list_any}
use Rattle.isle_cli.specs.Patterns.{covers}
use Rattle.isle_program_manifest.proofs.membership.is_covered.Given as goal

abbrev pub invariant-loop-entry : goal.invariant-loop-entry
invariant-loop-entry l =
    list_any (λ entry. covers entry l.path) (map (λ entry. entry.now) (drop l.entry-index l.entries)) ≡ list_any (λ entry. covers entry l.path) (map (λ entry. entry.now) l.entries)
