-- The names that can be written as text and read back, and the parts of other conditions.
use Rattle.std.specs.Prelude.{◌≡◌, ◌≢◌, ℕ, List, true}
use Rattle.std.specs.List.{AllByRecursion}
use Rattle.isle_ast_names.specs.Identifier.{is_identifier}
use Rattle.isle_ast_names.specs.Tree.{Name}

-- a name is an identifier
abbrev pub IsName : Name → Type 0
IsName n = is_identifier n.text ≡ true

-- each element of a list
abbrev pub Each : {A : Type 0} → (A → Type 0) → List A → Type 0
Each = AllByRecursion

-- a name other than this word
abbrev pub IsNot : Name → List ℕ → Type 0
IsNot n word = n.text ≢ word
