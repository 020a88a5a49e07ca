use Rattle.isle_index_laws.proofs.edits.Ranges.{edits_are_ranges}
use Rattle.isle_index_laws.proofs.edits.laws.edits_are_ranges.Goals as goal

pub returns : goal.returns
returns c = edits_are_ranges
