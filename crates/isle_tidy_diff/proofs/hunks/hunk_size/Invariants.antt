-- The lines so far, and those of the rest.
use Rattle.std.proofs.Common.{◌≡◌, ◌≤◌, ◌+◌, drop, length}
use Rattle.isle_tidy_diff.specs.Edits.{edits_of, new_lines, old_lines}
use Rattle.isle_tidy_diff.specs.Unified.{hunk}
use Rattle.isle_tidy_diff.proofs.hunks.hunk_size.Given as goal

abbrev pub invariant-loop-at : goal.invariant-loop-at
invariant-loop-at l = record {
  few_old : l.size.old ≤ l.at;
  few_new : l.size.new ≤ l.at;
  old : l.size.old + length (old_lines (hunk l.left (edits_of (drop l.at l.rest)))) ≡ length (old_lines (hunk l.behind (edits_of l.rest)));
  new : l.size.new + length (new_lines (hunk l.left (edits_of (drop l.at l.rest)))) ≡ length (new_lines (hunk l.behind (edits_of l.rest)));
}
