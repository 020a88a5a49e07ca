use Rattle.std.proofs.Common.{◌≡◌, ◌++◌, [], drop, length}
use Rattle.isle_index.specs.Held.{IsWhole, all_in}
use Rattle.isle_resolve.specs.Scopes.{bounds_of, seen_from}
use Rattle.isle_resolve.specs.EventView.{events_of}
use Rattle.isle_index.proofs.Index.add_events.Given as goal

abbrev pub invariant-loop-event : goal.invariant-loop-event
invariant-loop-event l =
    IsWhole l.fn.self
    → IsWhole l.self
    × (all_in l.self ++ seen_from (length l.self.entries.items) (bounds_of l.bound.items) (events_of (drop l.event-index l.events))
    ≡ all_in l.fn.self ++ seen_from (length l.fn.self.entries.items) [] (events_of l.events))
