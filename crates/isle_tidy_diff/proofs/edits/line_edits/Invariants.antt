-- The lines of both texts so far.
use Rattle.std.proofs.Common.{◌≡◌, ◌≤◌, length, take}
use Rattle.isle_tidy_diff.specs.Edits.{edits_of, new_lines, old_lines, texts_of}
use Rattle.isle_tidy_diff.proofs.edits.line_edits.Given as goal

abbrev pub invariant-loop-line : goal.invariant-loop-line
invariant-loop-line l =
    record {
      order : l.paired.told ≤ l.paired.next;
      within : l.paired.next ≤ length l.new;
      old : old_lines (edits_of l.edits.items) ≡ take l.line-index (texts_of l.old);
      new : new_lines (edits_of l.edits.items) ≡ take l.paired.told (texts_of l.new);
    }
