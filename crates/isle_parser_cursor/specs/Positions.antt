-- The positions of names.
use Rattle.std.specs.Prelude.{List, Option, None, Some}
use Rattle.std.specs.List.{AllByRecursion}
use Rattle.isle_base_source.specs.declared.pos.Pos.{Pos}
use Rattle.isle_ast_names.specs.Tree.{Name}

abbrev pub OfName : (Pos → Type 0) → Name → Type 0
OfName P n = P n.pos

abbrev pub OfNames : (Pos → Type 0) → List Name → Type 0
OfNames P ns = AllByRecursion (OfName P) ns

abbrev pub OfOptionalName : (Pos → Type 0) → Option Name → Type 0
OfOptionalName P None = Unit {0}
OfOptionalName P (Some name) = OfName P name
