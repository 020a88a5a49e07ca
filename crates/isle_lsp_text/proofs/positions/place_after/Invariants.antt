use Rattle.std.proofs.Common.{◌≡◌, ℕ, ◌+◌, ◌*◌, ◌≤◌, drop}
use Rattle.isle_lsp_text.specs.Positions.{position_at, position_from}
use Rattle.isle_lsp_text.proofs.positions.place_after.Given as goal

abbrev pub invariant-loop-i : goal.invariant-loop-i
invariant-loop-i l = record {
  so_far : (k : ℕ) → k + l.i ≡ l.offset → position_at l.encoding l.offset l.bytes ≡ position_from l.encoding l.line l.unit k (drop l.i l.bytes);
  lines : l.line ≤ l.i;
  units : l.unit ≤ 2 * l.i;
}
