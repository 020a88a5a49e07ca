use Rattle.std.proofs.Common.{◌≡◌, ◌++◌, drop}
use Rattle.std.specs.List.{flat_map}
use Rattle.isle_ast_rules.specs.TreeView.{conditions_of, rule_of}
use Rattle.isle_expand_core.specs.Mentions.{rule_uses, uses}
use Rattle.isle_expand_core.specs.Views.{uses_of}
use Rattle.isle_expand_core.proofs.mentions.rule_uses.Given as goal

abbrev pub invariant-loop-condition : goal.invariant-loop-condition
invariant-loop-condition l =
    uses_of l.found.items ++ flat_map (λ c. uses c.pattern) (conditions_of (drop l.condition-index l.condition-items)) ≡ rule_uses (rule_of l.rule)
