use Rattle.std.proofs.Common.{◌≡◌, ◌++◌, drop, flat_map, string_bytes}
use Rattle.isle_ast_names.specs.TreeView.{names_of}
use Rattle.isle_encoding.specs.Names.{name, names}
use Rattle.isle_encoding.proofs.names.put_names.Given as goal

abbrev pub invariant-loop-value : goal.invariant-loop-value
invariant-loop-value l =
    string_bytes l.out ++ flat_map name (names_of (drop l.value-index l.values)) ≡ string_bytes l.fn.out ++ names (names_of l.values)
