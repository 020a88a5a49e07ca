use Rattle.std.proofs.Common.{◌≡◌, ◌++◌, drop, flat_map, string_bytes}
use Rattle.isle_ast_rules.specs.TreeView.{conditions_of}
use Rattle.isle_encoding.specs.Numbers.{list}
use Rattle.isle_encoding.specs.Rules.{condition}
use Rattle.isle_encoding.proofs.rules.put_conditions.Given as goal

abbrev pub invariant-loop-value : goal.invariant-loop-value
invariant-loop-value l =
    string_bytes l.out ++ flat_map condition (conditions_of (drop l.value-index l.values)) ≡ string_bytes l.fn.out ++ list condition (conditions_of l.values)
