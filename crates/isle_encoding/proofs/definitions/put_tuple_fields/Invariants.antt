use Rattle.std.proofs.Common.{◌≡◌, ◌++◌, drop, flat_map, map, string_bytes}
use Rattle.isle_ast.specs.TreeView.{indexed_field_of}
use Rattle.isle_encoding.specs.Numbers.{list}
use Rattle.isle_encoding.specs.Encoded.{indexed_field}
use Rattle.isle_encoding.proofs.definitions.put_tuple_fields.Given as goal

abbrev pub invariant-loop-value : goal.invariant-loop-value
invariant-loop-value l =
    string_bytes l.out ++ flat_map indexed_field (map indexed_field_of (drop l.value-index l.values)) ≡ string_bytes l.fn.out ++ list indexed_field (map indexed_field_of l.values)
