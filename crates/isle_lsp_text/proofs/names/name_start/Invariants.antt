use Rattle.std.proofs.Common.{◌≡◌, ◌+◌, ◌≤◌, length, take}
use Rattle.std.specs.List.{suffix_len}
use Rattle.isle_lsp_text.specs.Names.{is_name_byte}
use Rattle.isle_lsp_text.proofs.names.name_start.Given as goal

abbrev pub invariant-loop-start : goal.invariant-loop-start
invariant-loop-start l = record {
  within : l.start ≤ length l.before;
  left : l.start + suffix_len is_name_byte l.before ≡ length l.before + suffix_len is_name_byte (take l.start l.before);
}

abbrev pub decreases-loop-start : goal.decreases-loop-start
decreases-loop-start l = l.start
