use Rattle.std.proofs.Common.{◌≡◌, ◌++◌, drop, flat_map, string_bytes}
use Rattle.isle_ast_verification.specs.TreeView.{specs_of}
use Rattle.isle_encoding.specs.Numbers.{list}
use Rattle.isle_encoding.specs.Verification.{spec}
use Rattle.isle_encoding.proofs.verification.put_clauses.Given as goal

abbrev pub invariant-loop-value : goal.invariant-loop-value
invariant-loop-value l =
    string_bytes l.out ++ flat_map spec (specs_of (drop l.value-index l.values)) ≡ string_bytes l.fn.out ++ list spec (specs_of l.values)
