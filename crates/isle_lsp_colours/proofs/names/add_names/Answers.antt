use Rattle.std.proofs.Common.{ap, map, ◌∙◌}
use Rattle.std.proofs.lemmas.List.{append-nil}
use Rattle.isle_ast.specs.TreeView.{definition_of, definitions_of}
use Rattle.isle_resolve.specs.EventView.{events_of}
use Rattle.isle_resolve.specs.Events.{definition_events, events}
use Rattle.isle_lsp_colours.proofs.Stepping.{no-more, one-more, with}
use Rattle.isle_lsp_colours.proofs.names.add_names.Goals as goal

pub loop-event-init : goal.loop-event-init
loop-event-init c = λ offset.
    ap (λ ps. with offset (map (λ p. p.now) ps) (events_of c.deref-event-items.result.now) c.args.classes.now) c.new-parameters.ensures.items

pub loop-event-preserved : goal.loop-event-preserved
loop-event-preserved c = λ offset.
    one-more offset c.deref-event-items.result.now c.loop-event.event-index _ (map (λ p. p.now) c.loop-event.parameters.items)
    (map (λ p. p.now) c.add_parameter.new.parameters.items) c.name_of.result c.loop-event.classes c.put_if.new.classes _ c.loop-event-test.true
    (rw c.deref.ensures.value at c.name_of.ensures) c.in_ok-add_parameter.ensures (c.put_if.ensures offset) (c.loop-event.invariant offset)

pub returns : goal.returns
returns c = λ offset.
    no-more offset c.deref-event-items.result.now c.loop-event.event-index (definition_of c.args.def.now) (map (λ p. p.now) c.loop-event.parameters.items)
    c.args.classes.now c.loop-event.classes c.loop-event-test.false
    (ap events_of c.deref-event-items.ensures.value ∙ c.in_ok-found.ensures ∙ ap (λ ds. events (definitions_of ds)) c.from_ref.ensures.value ∙ append-nil (definition_events (definition_of c.args.def.now)))
    (c.loop-event.invariant offset)
