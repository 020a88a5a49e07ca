use Rattle.isle_lsp_text.proofs.Places.{start_place}
use Rattle.isle_lsp_ranges.proofs.selection.whole.Goals as goal

pub range_between-requires : goal.range_between-requires
range_between-requires c = start_place c.args.encoding _
