use Rattle.std.proofs.Common.{◌+◌, drop, ap, ◌∙◌}
use Rattle.std.proofs.lemmas.List.{at_drop_more}
use Rattle.isle_ast_names.proofs.ListComparison.{count}
use Rattle.isle_resolve.specs.EventView.{events_of}
use Rattle.isle_resolve.specs.Scopes.{bounds_of}
use Rattle.isle_index.proofs.Adding.{added_by}
use Rattle.isle_index.proofs.Index.add_events.Goals as goal

pub loop-event-preserved : goal.loop-event-preserved
loop-event-preserved c = λ whole.
    let old = c.loop-event.self in
    let events = c.args.events.now in
    let i = c.loop-event.event-index in
    let before = c.loop-event.invariant whole in
    let step =
    added_by old.texts.items.items c.entry_of.new.self.items.items old.entries.items c.push.new.self.items c.in_ok-entry.entry _
    (bounds_of c.loop-event.bound.items) (bounds_of c.deref.result.now) (bounds_of c.bind.new.bound.items) c.len-number.result
    (events_of (drop (i + 1) events)) (events_of (drop i events))
    c.in_ok-entry.ensures.kept before.0 (c.len-number.ensures ∙ count old.entries) (ap bounds_of c.deref.ensures.value) c.in_ok-entry.ensures.is
    c.in_ok-push.ensures.items c.in_ok-bind.ensures (at_drop_more events_of events i _ c.loop-event-test.true) in
    (step.has, step.is ∙ before.1)
