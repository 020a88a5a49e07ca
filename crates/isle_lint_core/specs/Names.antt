-- Lists of names: which occur twice.
use Rattle.std.specs.Prelude.{ℕ, List, [], ◌∷◌, ◌++◌, Bool, false, map, ◌==◌, if◌then◌else◌}
use Rattle.std.specs.Borrow.{Bor}
use Rattle.std.specs.List.{list_any}
use Rattle.std.specs.Str.{bytes_eq}
use Rattle.isle_ast_names.specs.declared.Ident.{Ident}
use Rattle.isle_ast_names.specs.Tree.{Name}
use Rattle.isle_ast_names.specs.TreeView.{name_of}
use Rattle.isle_base.specs.Bytes.{underscore}

-- the names that references lead to
abbrev pub names_at : List (Bor Ident) → List Name
names_at names = map (λ i. name_of i.now) names

-- whether one of the names has this text
abbrev pub has : List Name → List ℕ → Bool
has names text = list_any (λ n. bytes_eq n.text text) names

-- whether a name begins with `_`
abbrev pub is_private : List ℕ → Bool
is_private [] = false
is_private (c ∷ _) = c == underscore

-- the name if it counts
abbrev pub kept_if : Bool → Name → List Name
kept_if counts name = if counts then name ∷ [] else []

-- the names that are equal to an earlier one or to a name before them, by text
abbrev pub repeated : List Name → List Name → List Name
repeated earlier [] = []
repeated earlier (n ∷ ns) = kept_if (has earlier n.text) n ++ repeated (n ∷ earlier) ns
