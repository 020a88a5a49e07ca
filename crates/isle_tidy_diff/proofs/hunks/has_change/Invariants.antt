use Rattle.std.proofs.Common.{◌≡◌, drop}
use Rattle.isle_tidy_diff.specs.Edits.{edits_of}
use Rattle.isle_tidy_diff.specs.Unified.{has_change}
use Rattle.isle_tidy_diff.proofs.hunks.has_change.Given as goal

abbrev pub invariant-loop-edit : goal.invariant-loop-edit
invariant-loop-edit l = has_change (edits_of (drop l.edit-index l.edits)) ≡ has_change (edits_of l.edits)
