use Rattle.std.proofs.Common.{◌≡◌, [], map, take, drop}
use Rattle.isle_ast.specs.TreeView.{named_field_of}
use Rattle.isle_ast_names.specs.TreeView.{name_of}
use Rattle.isle_check_environment.specs.Names.{Knows}
use Rattle.isle_check_environment.specs.Types.{is_type_in}
use Rattle.isle_check_declarations.specs.TypeFaults.{field_name, named_fields_fault}
use Rattle.isle_check_declarations.proofs.types.named_fields_fault.Given as goal

abbrev pub invariant-loop-field : goal.invariant-loop-field
invariant-loop-field l =
    Knows l.earlier (map field_name (map named_field_of (take l.field-index l.fields)))
    × (named_fields_fault (is_type_in l.known) (name_of l.variant) (map field_name (map named_field_of (take l.field-index l.fields))) (map named_field_of (drop l.field-index l.fields))
    ≡ named_fields_fault (is_type_in l.known) (name_of l.variant) [] (map named_field_of l.fields))
