use Rattle.std.proofs.Common.{◌++◌, ap, arith, map}
use Rattle.std.proofs.lemmas.Grind.{common_steps}
use Rattle.isle_lsp_text.proofs.Places.{start_place}
use Rattle.isle_lsp_protocol.specs.Items.{item_data}
use Rattle.isle_lsp_diagnostics.specs.Hints.{hint_data, hint_of}
use Rattle.isle_lsp_diagnostics.proofs.hints.items.Goals as goal

pub loop-hint-init : goal.loop-hint-init
loop-hint-init c = record {
  so_far = ap (λ items. map item_data items ++ map (hint_data c.args.encoding c.args.text.now) (map hint_of c.args.hints.now)) c.new-items.ensures.items;
  near = start_place c.args.encoding _;
}

pub loop-hint-preserved : goal.loop-hint-preserved
loop-hint-preserved c = record { so_far = grind (arith, common_steps); near = c.place_at-near.ensures.place }
