use Rattle.std.proofs.Common.{◌≡◌, ◌≤◌, true, drop}
use Rattle.isle_lsp_text.specs.Comments.{comments}
use Rattle.isle_lsp_text.proofs.Above.{above}
use Rattle.isle_lsp_text.proofs.comments.start_of_comments.Given as goal

abbrev pub invariant-loop-i : goal.invariant-loop-i
invariant-loop-i l = record {
  within : l.start ≤ l.i;
  so_far : above l.line (drop l.start l.before) (drop l.i l.before) ≡ comments true l.before;
}
