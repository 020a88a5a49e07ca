-- The variants of an enum as terms.
use Rattle.std.specs.Prelude.{ℕ, List, ◌++◌, Bool, false, codes}
use Rattle.std.specs.List.{list_any}
use Rattle.std.specs.Str.{bytes_eq}
use Rattle.isle_ast.specs.Tree.{TypeDefinition, TypeContent, enum_type, EnumVariant}

-- whether a variant of a type is the term of this symbol, `TYPE.VARIANT`
abbrev pub is_variant : List ℕ → TypeDefinition → EnumVariant → Bool
is_variant text t v = bytes_eq (t.name.text ++ codes "." ++ v.name.text) text

abbrev pub has_variant : List ℕ → TypeDefinition → TypeContent → Bool
has_variant text t (enum_type variants place) = list_any (is_variant text t) variants
has_variant text t content = false
