use Rattle.isle_lsp_text.proofs.Places.{start_place}
use Rattle.isle_lsp_text.proofs.ranges.range_at.Goals as goal

pub range_near-requires : goal.range_near-requires
range_near-requires c = start_place _ _
