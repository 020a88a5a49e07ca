use Rattle.std.proofs.Common.{◌≡◌, ◌++◌, drop, filter, map, nat_eq}
use Rattle.std.specs.List.{starts_with}
use Rattle.isle_lsp_features.specs.Completed.{keyword_word, word_of}
use Rattle.isle_lsp_features.proofs.completion.add_keywords.Given as goal

abbrev pub invariant-loop-keyword : goal.invariant-loop-keyword
invariant-loop-keyword l =
    map word_of l.words.items
    ++ map keyword_word (filter (λ text. starts_with nat_eq text l.prefix) (map (λ keyword. keyword.now) (drop l.keyword-index l.keywords)))
    ≡ map word_of l.fn.words.items
    ++ map keyword_word (filter (λ text. starts_with nat_eq text l.prefix) (map (λ keyword. keyword.now) l.keywords))
