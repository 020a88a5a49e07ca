-- A set of texts, viewed as the names that were added to it.
use Rattle.std.specs.Prelude.{◌≡◌, ℕ, List}
use Rattle.std.specs.Borrow.{Bor}
use Rattle.std.specs.BTreeSet.{BTreeSet, contains}
use Rattle.std.specs.Cmp.Lexicographic.{slice_cmp}
use Rattle.std.specs.Ordering.{nat_cmp}
use Rattle.isle_ast_names.specs.Tree.{Name}
use Rattle.isle_lint_core.specs.Names.{has}

-- the set has the texts of these names and no others
abbrev pub Knows : BTreeSet (Bor (List ℕ)) → List Name → Type 0
Knows seen names = (text : Bor (List ℕ)) → contains (λ x y. slice_cmp nat_cmp x.now y.now) seen text ≡ has names text.now
