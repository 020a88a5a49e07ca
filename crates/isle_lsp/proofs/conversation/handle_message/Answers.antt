use Rattle.std.proofs.Common.{option_map, ◌∙◌, ap}
use Rattle.serde_json.specs.View.{view}
use Rattle.isle_lsp_protocol.specs.Machine.{next_state, action_of}
use Rattle.isle_lsp.proofs.Depths.{decoded}
use Rattle.isle_lsp.proofs.Talks.{prepared}
use Rattle.isle_lsp.proofs.conversation.handle_message.Goals as goal

pub returns-clause-ok : goal.returns-clause-ok
returns-clause-ok g c = λ moments e.
    let m = c.message_in.ensures in
    prepared _ _ _ (option_map view c.in_ok-message.message) _ _ _ _ moments _ _ c.perform.result
    (rw c.as_slice.ensures.value at c.in_ok-message.ensures.ok)
    (c.step-state.ensures.state ∙ ap (next_state c.args.server.now.state) m)
    (c.step-state.ensures.action ∙ ap (action_of c.args.server.now.state) m)
    (c.in_ok-opened.ensures moments e)
    c.in_ok-note.ensures.state c.in_ok-note.ensures.documents c.in_ok-note.ensures.encoding c.in_ok-note.ensures.folders c.in_ok-note.ensures.takes c.in_ok-note.ensures.watches
    c.in_ok-shown.ensures
    (c.perform.ensures.sends (decoded c.args.body.items (option_map view c.in_ok-message.message) (rw c.as_slice.ensures.value at c.in_ok-message.ensures.ok)))
