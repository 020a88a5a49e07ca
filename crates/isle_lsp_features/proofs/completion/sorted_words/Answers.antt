use Rattle.std.proofs.Common.{List, map, rules, subst}
use Rattle.std.proofs.lemmas.Cmp.{nat_list_cmp_total}
use Rattle.std.proofs.lemmas.List.Sorted.{IsPermutation-map, answers_always, ranks_by}
use Rattle.std.specs.List.Sorted.{IsPermutation}
use Rattle.std.specs.Prelude.{string_bytes}
use Rattle.isle_lsp_features.specs.Completed.{WordNode, word_of}
use Rattle.isle_lsp_features.proofs.completion.sorted_words.Goals as goal

pub returns-clause-exact : goal.returns-clause-exact
returns-clause-exact c =
    let P : List WordNode → Type 0 = λ ws. IsPermutation ws (map word_of c.sort_by.new.self.items) in
    subst P c.in_ok-words.ensures (IsPermutation-map word_of _ _ c.in_ok-sort_by.ensures.permutation)

pub returns-clause-in_order : goal.returns-clause-in_order
returns-clause-in_order c =
    c.in_ok-sort_by.ensures.sorted _ (ranks_by nat_list_cmp_total (λ w. string_bytes w.text)) (answers_always _ _ _ (λ f a r g h. search rules))
