use Rattle.std.proofs.Common.{◌≡◌, drop}
use Rattle.isle_lsp_ranges.specs.Selections.{word_at}
use Rattle.isle_lsp_ranges.proofs.words.word_at.Given as goal

abbrev pub invariant-loop-i : goal.invariant-loop-i
invariant-loop-i l = word_at l.offset (drop l.i l.words) ≡ word_at l.offset l.words
