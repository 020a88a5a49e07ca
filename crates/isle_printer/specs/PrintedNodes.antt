-- The number of nodes of the S-expressions of definitions. A definition that contains a macro
-- argument has no S-expression.
use Rattle.std.specs.Prelude.{ℕ, ◌+◌, List, [], ◌∷◌, if◌then◌else◌}
use Rattle.isle_ast.specs.Tree.{Definition}
use Rattle.isle_ast.specs.MacroArgs.{definition_has_macro_arg}
use Rattle.isle_printer_layout.specs.Looks.{nodes}
use Rattle.isle_printer.specs.DefinitionShapes.{definition_shape}

abbrev pub nodes_of_definition : Definition → ℕ
nodes_of_definition d = if definition_has_macro_arg d then 0 else nodes (definition_shape d)

-- those of all definitions together
abbrev pub nodes_of_definitions : List Definition → ℕ
nodes_of_definitions [] = 0
nodes_of_definitions (d ∷ ds) = nodes_of_definition d + nodes_of_definitions ds
