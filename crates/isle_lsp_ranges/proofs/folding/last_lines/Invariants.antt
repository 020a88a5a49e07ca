use Rattle.std.proofs.Common.{◌≡◌, ℕ, ◌+◌, ◌<◌, ◌≤◌, drop, get_or, length, max}
use Rattle.isle_lsp_ranges.specs.Foldings.{last_line, line_in}
use Rattle.isle_lsp_ranges.proofs.folding.last_lines.Given as goal

abbrev pub invariant-loop-line : goal.invariant-loop-line
invariant-loop-line l = record {
  len : length l.ends.items ≡ l.line;
  each : (k : ℕ) → k < l.line → get_or l.ends.items k 0 ≡ k;
}

abbrev pub invariant-loop-list : goal.invariant-loop-list
invariant-loop-list l = record {
  len : length l.ends.items ≡ length l.breaks + 1;
  each : (k : ℕ) → k ≤ length l.breaks
      → (k ≤ get_or l.ends.items k 0)
      × (max (get_or l.ends.items k 0) (last_line (line_in l.breaks) k (drop l.list-index l.lists)) ≡ last_line (line_in l.breaks) k l.lists);
}
