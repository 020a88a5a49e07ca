use Rattle.std.proofs.Common.{◌≡◌, drop, option_map}
use Rattle.isle_ast_names.specs.TreeView.{name_of}
use Rattle.isle_ast_rules.specs.TreeView.{expression_list_of, expressions_of, let_list_of, single_lets_of}
use Rattle.isle_lsp_diagnostics.specs.Hovers.{let_use_at, list_use_at}
use Rattle.isle_lsp_diagnostics.proofs.mentions.+uses.Given as goal

abbrev pub invariant-list_use_at-loop-expr : goal.invariant-list_use_at-loop-expr
invariant-list_use_at-loop-expr l =
    list_use_at l.offset (expression_list_of (expressions_of (drop l.expr-index l.expr-items)))
    ≡ list_use_at l.offset (expression_list_of (expressions_of l.expr-items))

-- the definitions that are left are the first ones
abbrev pub invariant-let_use_at-loop-at : goal.invariant-let_use_at-loop-at
invariant-let_use_at-loop-at l =
    option_map (λ n. name_of n.now) l.found
    ≡ let_use_at l.offset (let_list_of (single_lets_of (drop l.at l.defs.items))) (option_map (λ n. name_of n.now) l.fn.body)
