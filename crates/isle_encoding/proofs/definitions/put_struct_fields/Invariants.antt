use Rattle.std.proofs.Common.{◌≡◌, ◌++◌, drop, flat_map, map, string_bytes}
use Rattle.isle_ast.specs.TreeView.{named_field_of}
use Rattle.isle_encoding.specs.Numbers.{list}
use Rattle.isle_encoding.specs.Encoded.{named_field}
use Rattle.isle_encoding.proofs.definitions.put_struct_fields.Given as goal

abbrev pub invariant-loop-value : goal.invariant-loop-value
invariant-loop-value l =
    string_bytes l.out ++ flat_map named_field (map named_field_of (drop l.value-index l.values)) ≡ string_bytes l.fn.out ++ list named_field (map named_field_of l.values)
