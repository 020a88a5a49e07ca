use Rattle.std.proofs.Common.{◌≡◌, ◌++◌, drop, length, map}
use Rattle.isle_lsp_ranges.specs.Selections.{grown, list_part, part, word_at}
use Rattle.isle_lsp_ranges.proofs.selection.parts_around.Given as goal

abbrev pub invariant-loop-word : goal.invariant-loop-word
invariant-loop-word l =
    l.parts.items ++ grown (part 0 (length l.text)) l.inner (drop l.word-index (word_at l.offset l.words) ++ map list_part l.lists)
    ≡ grown (part 0 (length l.text)) (part l.offset l.offset) (word_at l.offset l.words ++ map list_part l.lists)

abbrev pub invariant-loop-list : goal.invariant-loop-list
invariant-loop-list l =
    l.parts.items ++ grown (part 0 (length l.text)) l.inner (map list_part (drop l.list-index l.lists))
    ≡ grown (part 0 (length l.text)) (part l.offset l.offset) (word_at l.offset l.words ++ map list_part l.lists)
