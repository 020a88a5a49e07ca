-- What code knows of recursion, as pure values.
use Rattle.std.specs.Prelude.{ℕ, List, Option, map, option_map}
use Rattle.std.specs.Borrow.{Bor}
use Rattle.std.specs.HashMap.{get_by_text}
use Rattle.isle_ast_names.specs.Tree.{Name}
use Rattle.isle_ast_names.specs.TreeView.{name_of}
use Rattle.isle_ast_names.specs.declared.Ident.{Ident}
use Rattle.isle_check_environment.specs.ByText.{ByText}
use Rattle.isle_check_recursion.specs.declared.Recursion.{Recursion}
use Rattle.isle_check_recursion.specs.Recursion.{RecursionNode}

abbrev pub names_at : List (Bor Ident) → List Name
names_at ns = map (λ n. name_of n.now) ns

abbrev pub recursion_of : Recursion → RecursionNode
recursion_of r = record { path = names_at r.path.items; pos = r.pos }

abbrev pub recursions_at : List Recursion → List RecursionNode
recursions_at rs = map recursion_of rs

-- the numbers that a map has
abbrev pub number_in : ByText ℕ → List ℕ → Option ℕ
number_in numbers text = option_map (λ n. n) (get_by_text numbers text)
