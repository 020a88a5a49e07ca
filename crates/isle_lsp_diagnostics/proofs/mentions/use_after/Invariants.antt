use Rattle.std.proofs.Common.{◌≡◌, drop}
use Rattle.isle_ast_rules.specs.TreeView.{conditions_of, expression_of}
use Rattle.isle_lsp_diagnostics.specs.Hovers.{use_after}
use Rattle.isle_lsp_diagnostics.proofs.mentions.use_after.Given as goal

abbrev pub invariant-loop-condition : goal.invariant-loop-condition
invariant-loop-condition l =
    use_after l.offset (conditions_of (drop l.condition-index l.conditions)) (expression_of l.expr)
    ≡ use_after l.offset (conditions_of l.conditions) (expression_of l.expr)
