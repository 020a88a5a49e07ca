use Rattle.std.proofs.Common.{◌≡◌, ◌++◌, drop, flat_map, map, string_bytes}
use Rattle.isle_ast_verification.specs.TreeView.{modified_of}
use Rattle.isle_encoding.specs.Numbers.{list}
use Rattle.isle_encoding.specs.Verification.{modified}
use Rattle.isle_encoding.proofs.verification.put_all_modified.Given as goal

abbrev pub invariant-loop-value : goal.invariant-loop-value
invariant-loop-value l =
    string_bytes l.out ++ flat_map modified (map modified_of (drop l.value-index l.values)) ≡ string_bytes l.fn.out ++ list modified (map modified_of l.values)
