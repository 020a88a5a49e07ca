use Rattle.std.proofs.Common.{◌≡◌, ◌++◌, drop, flat_map, map, string_bytes}
use Rattle.isle_ast.specs.TreeView.{kind_of}
use Rattle.isle_encoding.specs.Numbers.{list}
use Rattle.isle_encoding.specs.Encoded.{attribute_kind}
use Rattle.isle_encoding.proofs.definitions.put_kinds.Given as goal

abbrev pub invariant-loop-value : goal.invariant-loop-value
invariant-loop-value l =
    string_bytes l.out ++ flat_map attribute_kind (map kind_of (drop l.value-index l.values)) ≡ string_bytes l.fn.out ++ list attribute_kind (map kind_of l.values)
