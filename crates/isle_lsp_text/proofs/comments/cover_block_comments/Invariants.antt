use Rattle.std.proofs.Common.{◌-◌, ◌≤◌, length}
use Rattle.isle_lsp_text.specs.Comments.{Covers}
use Rattle.isle_lsp_text.proofs.comments.cover_block_comments.Given as goal

abbrev pub invariant-loop-covered : goal.invariant-loop-covered
invariant-loop-covered l = record {
  within : length l.covered.items ≤ length l.text;
  so_far : Covers l.text 0 (length l.covered.items) l.covered.items;
}

abbrev pub decreases-loop-covered : goal.decreases-loop-covered
decreases-loop-covered l = length l.text - length l.covered.items
