use Rattle.std.proofs.Common.{ap}
use Rattle.isle_lsp_text.proofs.Places.{start_place}
use Rattle.isle_lsp_features.proofs.locations.highlights_in.Goals as goal
use Rattle.isle_lsp_protocol.specs.Items.{item_data}
use Rattle.std.specs.Prelude.{map}

pub loop-occurrence-init : goal.loop-occurrence-init
loop-occurrence-init c = record { so_far = ap (map item_data) c.new-items.ensures.items; near = start_place c.args.place.encoding c.args.place.text.now }
