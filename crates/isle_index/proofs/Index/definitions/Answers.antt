use Rattle.std.proofs.Common.{List, ap, ◌∙◌, subst}
use Rattle.std.specs.List.Sorted.{IsPermutation}
use Rattle.isle_index.specs.declared.occurrences.Occurrence.{Occurrence}
use Rattle.isle_resolve.specs.Names.{named_of}
use Rattle.isle_index.specs.Occurrences.{definitions}
use Rattle.isle_index.proofs.Sorting.{first-not_less}
use Rattle.isle_index.proofs.Index.definitions.Goals as goal

pub returns-clause-exact : goal.returns-clause-exact
returns-clause-exact c =
    let P : List Occurrence → Type 0 = λ xs. IsPermutation xs c.sort.new.self.items in
    subst P (c.in_ok-found.ensures ∙ ap (definitions (named_of c.args.name.now)) c.entries.ensures) c.in_ok-sort.ensures.permutation

pub returns-clause-in_order : goal.returns-clause-in_order
returns-clause-in_order c = λ k d above within. first-not_less _ _ (c.in_ok-sort.ensures.sorted k d above within)
