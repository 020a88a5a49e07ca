use Rattle.std.proofs.Common.{◌≡◌, ◌++◌, drop, map}
use Rattle.serde_json.specs.View.{items_view}
use Rattle.isle_lsp_actions.specs.Actions.{action_of, all_actions}
use Rattle.isle_lsp_actions.specs.Names.{name_of}
use Rattle.isle_lsp_actions.proofs.actions.all_actions.Given as goal

abbrev pub invariant-loop-diagnostic : goal.invariant-loop-diagnostic
invariant-loop-diagnostic l =
    all_actions l.encoding l.text (map name_of l.names) l.lists (items_view l.diagnostics)
    ≡ map action_of l.actions.items ++ all_actions l.encoding l.text (map name_of l.names) l.lists (items_view (drop l.diagnostic-index l.diagnostics))
