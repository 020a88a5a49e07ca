use Rattle.std.proofs.Common.{◌≡◌, ◌++◌, filter, length, map}
use Rattle.std.specs.Vec.Iter.{into_iter_items, into_iter_len}
use Rattle.isle_index.specs.Candidates.{candidate_of}
use Rattle.isle_lsp_features.specs.Completed.{is_of, name_word, word_of}
use Rattle.isle_lsp_features.proofs.completion.add_names.Given as goal

abbrev pub invariant-loop-candidate : goal.invariant-loop-candidate
invariant-loop-candidate l = record {
  words :
      map word_of l.words.items ++ map name_word (filter (is_of l.names) (map candidate_of (into_iter_items l.candidate-iterator)))
      ≡ map word_of l.fn.words.items ++ map name_word (filter (is_of l.names) (map candidate_of l.fn.found.items));
  len : into_iter_len l.candidate-iterator ≡ length (into_iter_items l.candidate-iterator);
}
