use Rattle.std.proofs.Common.{ap, ◌∙◌}
use Rattle.isle_ast.specs.TreeView.{definitions_of}
use Rattle.isle_resolve.specs.EventView.{events_of}
use Rattle.isle_resolve.specs.Events.{events}
use Rattle.isle_index.proofs.Growing.{index-step}
use Rattle.isle_index.proofs.Index.add.Goals as goal

pub loop-def-preserved : goal.loop-def-preserved
loop-def-preserved c = λ ds is.
    index-step ds c.args.defs.now c.loop-def.def-index c.def-item.result c.loop-def.self c.add_events.new.self (events_of c.deref.result.now)
    c.loop-def-test.true c.def-item.is (c.loop-def.invariant ds is)
    (ap events_of c.deref.ensures.value ∙ c.in_ok-events.ensures ∙ ap (λ defs. events (definitions_of defs)) c.from_ref.ensures.value)
    c.in_ok-add_events.ensures
