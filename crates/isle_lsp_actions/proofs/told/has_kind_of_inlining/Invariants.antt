use Rattle.std.proofs.Common.{◌≡◌, drop}
use Rattle.serde_json.specs.View.{items_view}
use Rattle.isle_lsp_actions.specs.Told.{has_kind_of_inlining}
use Rattle.isle_lsp_actions.proofs.told.has_kind_of_inlining.Given as goal

abbrev pub invariant-loop-kind : goal.invariant-loop-kind
invariant-loop-kind l = has_kind_of_inlining (items_view (drop l.kind-index l.kinds)) ≡ has_kind_of_inlining (items_view l.kinds)
