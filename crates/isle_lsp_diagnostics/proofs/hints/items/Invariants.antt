use Rattle.std.proofs.Common.{◌≡◌, ◌++◌, drop, map}
use Rattle.isle_lsp_text.specs.Positions.{IsPlace}
use Rattle.isle_lsp_protocol.specs.Items.{item_data}
use Rattle.isle_lsp_diagnostics.specs.Hints.{hint_data, hint_of}
use Rattle.isle_lsp_diagnostics.proofs.hints.items.Given as goal

abbrev pub invariant-loop-hint : goal.invariant-loop-hint
invariant-loop-hint l = record {
  so_far : map item_data l.items.items ++ map (hint_data l.encoding l.text) (map hint_of (drop l.hint-index l.hints)) ≡ map (hint_data l.encoding l.text) (map hint_of l.hints);
  near : IsPlace l.encoding l.text l.near;
}
