use Rattle.std.proofs.Common.{◌≡◌, drop}
use Rattle.serde_json.specs.Data.{no_members}
use Rattle.serde_json.specs.View.{members_view}
use Rattle.isle_lsp_protocol.specs.Items.{with_changes}
use Rattle.isle_lsp_protocol.proofs.items.plain_changes.Given as goal

abbrev pub invariant-loop-item : goal.invariant-loop-item
invariant-loop-item l = with_changes l.items no_members ≡ with_changes (drop l.item-index l.items) (members_view l.changes.entries)
