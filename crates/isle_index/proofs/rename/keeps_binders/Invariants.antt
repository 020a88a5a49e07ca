use Rattle.std.proofs.Common.{◌≡◌, drop, map}
use Rattle.isle_index.specs.Entries.{all_of, unpacked_from}
use Rattle.isle_index.specs.Renaming.{renamed_variable, same_binders}
use Rattle.isle_resolve.specs.Scopes.{bounds_of, seen, seen_from}
use Rattle.isle_index.proofs.rename.keeps_binders.Given as goal

abbrev pub invariant-loop-number : goal.invariant-loop-number
invariant-loop-number l =
    same_binders (seen_from l.number (bounds_of l.bound.items) (map (renamed_variable l.variable l.old l.new) (unpacked_from l.entries.texts.now l.number (drop l.number l.entries.items.now)))) (unpacked_from l.entries.texts.now l.number (drop l.number l.entries.items.now))
    ≡ same_binders (seen (map (renamed_variable l.variable l.old l.new) (all_of l.entries))) (all_of l.entries)
