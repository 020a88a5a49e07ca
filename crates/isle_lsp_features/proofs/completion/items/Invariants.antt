use Rattle.std.proofs.Common.{◌≡◌, ◌++◌, None, length, map}
use Rattle.std.specs.Vec.Iter.{into_iter_items, into_iter_len}
use Rattle.isle_lsp_protocol.specs.Items.{item_data}
use Rattle.isle_lsp_features.specs.Completed.{item, once, word_of}
use Rattle.isle_lsp_features.proofs.completion.items.Given as goal

abbrev pub invariant-loop-word : goal.invariant-loop-word
invariant-loop-word l = record {
  items :
      map item_data l.items.items ++ map (item l.range) (map word_of (into_iter_items l.word-iterator))
      ≡ map (item l.range) (once None (map word_of l.fn.words.items));
  len : into_iter_len l.word-iterator ≡ length (into_iter_items l.word-iterator);
}
