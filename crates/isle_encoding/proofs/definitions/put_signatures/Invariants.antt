use Rattle.std.proofs.Common.{◌≡◌, ◌++◌, drop, flat_map, string_bytes}
use Rattle.isle_ast.specs.TreeView.{signatures_of}
use Rattle.isle_encoding.specs.Numbers.{list}
use Rattle.isle_encoding.specs.Encoded.{signature}
use Rattle.isle_encoding.proofs.definitions.put_signatures.Given as goal

abbrev pub invariant-loop-value : goal.invariant-loop-value
invariant-loop-value l =
    string_bytes l.out ++ flat_map signature (signatures_of (drop l.value-index l.values)) ≡ string_bytes l.fn.out ++ list signature (signatures_of l.values)
