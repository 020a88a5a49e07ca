-- What is written, and the rows of the rest.
use Rattle.std.proofs.Common.{◌≡◌, ◌≤◌, ◌++◌, drop}
use Rattle.isle_tidy_diff.specs.Edits.{edits_of}
use Rattle.isle_tidy_diff.specs.Unified.{first_place, rows}
use Rattle.isle_tidy_diff.proofs.hunks.push_hunks.Given as goal

abbrev pub invariant-loop-at : goal.invariant-loop-at
invariant-loop-at l = record {
  few_old : l.place.old ≤ l.at;
  few_new : l.place.new ≤ l.at;
  is : l.diff.items ++ rows l.place (edits_of (drop l.at l.edits)) ≡ l.fn.diff.items ++ rows first_place (edits_of l.edits);
}
