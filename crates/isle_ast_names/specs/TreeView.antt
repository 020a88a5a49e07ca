-- The names of code as pure values.
use Rattle.std.specs.Prelude.{List, map, Option, None, Some, string_bytes}
use Rattle.isle_ast_names.specs.declared.Ident.{Ident}
use Rattle.isle_ast_names.specs.Tree.{Name}

abbrev pub name_of : Ident → Name
name_of i = record { text = string_bytes i.0; pos = i.1 }

abbrev pub names_of : List Ident → List Name
names_of is = map name_of is

abbrev pub optional_name_of : Option Ident → Option Name
optional_name_of None = None
optional_name_of (Some i) = Some (name_of i)
