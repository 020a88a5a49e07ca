use Rattle.std.proofs.Common.{◌≡◌, map, take}
use Rattle.serde_json.specs.View.{view}
use Rattle.isle_lsp_actions.specs.Actions.{action_of}
use Rattle.isle_lsp_actions.specs.Answers.{action_data}
use Rattle.isle_lsp_actions.proofs.answers.actions_value.Given as goal

abbrev pub invariant-loop-action : goal.invariant-loop-action
invariant-loop-action l =
    map view l.values.items
    ≡ map (action_data l.encoding l.takes_document_changes l.document.uri.now l.document.version l.document.text.now) (map action_of (take l.action-index l.actions))
