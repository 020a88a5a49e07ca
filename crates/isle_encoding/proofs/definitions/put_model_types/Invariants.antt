use Rattle.std.proofs.Common.{◌≡◌, ◌++◌, drop, flat_map, map, string_bytes}
use Rattle.isle_ast_verification.specs.TreeView.{type_model_of}
use Rattle.isle_encoding.specs.Numbers.{list}
use Rattle.isle_encoding.specs.Verification.{type_model}
use Rattle.isle_encoding.proofs.definitions.put_model_types.Given as goal

abbrev pub invariant-loop-value : goal.invariant-loop-value
invariant-loop-value l =
    string_bytes l.out ++ flat_map type_model (map type_model_of (drop l.value-index l.values)) ≡ string_bytes l.fn.out ++ list type_model (map type_model_of l.values)
