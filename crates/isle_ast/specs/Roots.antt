-- The full name of a variant.
use Rattle.std.specs.Prelude.{◌++◌, codes}
use Rattle.isle_ast_names.specs.Tree.{Name}

-- the name of an enum, a dot and the name of a variant, at the position of the variant's name
abbrev pub full_name : Name → Name → Name
full_name enum case = record { text = enum.text ++ codes "." ++ case.text; pos = case.pos }
