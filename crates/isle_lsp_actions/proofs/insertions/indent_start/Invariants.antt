use Rattle.std.proofs.Common.{◌≡◌, ◌+◌, ◌≤◌, length, take}
use Rattle.std.specs.List.{suffix_len}
use Rattle.isle_lsp_actions.specs.Insertions.{is_indent}
use Rattle.isle_lsp_actions.proofs.insertions.indent_start.Given as goal

abbrev pub invariant-loop-start : goal.invariant-loop-start
invariant-loop-start l = record {
  within : l.start ≤ length l.before;
  left : l.start + suffix_len is_indent l.before ≡ length l.before + suffix_len is_indent (take l.start l.before);
}

abbrev pub decreases-loop-start : goal.decreases-loop-start
decreases-loop-start l = l.start
