use Rattle.std.proofs.Common.{◌≡◌, map, drop}
use Rattle.isle_ast.specs.TreeView.{indexed_field_of}
use Rattle.isle_ast_names.specs.TreeView.{name_of}
use Rattle.isle_check_environment.specs.Types.{is_type_in}
use Rattle.isle_check_declarations.specs.TypeFaults.{indexed_fields_fault}
use Rattle.isle_check_declarations.proofs.types.indexed_fields_fault.Given as goal

abbrev pub invariant-loop-field : goal.invariant-loop-field
invariant-loop-field l =
    indexed_fields_fault (is_type_in l.known) (name_of l.variant) (map indexed_field_of (drop l.field-index l.fields))
    ≡ indexed_fields_fault (is_type_in l.known) (name_of l.variant) (map indexed_field_of l.fields)
