use Rattle.std.proofs.Common.{◌≡◌, ◌++◌, drop, string_bytes}
use Rattle.isle_ast_rules.specs.TreeView.{expression_list_of, expressions_of, let_list_of, single_lets_of}
use Rattle.isle_encoding.specs.Rules.{expression_list, expressions, let_list, lets}
use Rattle.isle_encoding.proofs.rules.+expression.Given as goal

abbrev pub invariant-put_exprs-loop-value : goal.invariant-put_exprs-loop-value
invariant-put_exprs-loop-value l =
    string_bytes l.out ++ expressions (expression_list_of (expressions_of (drop l.value-index l.value-items))) ≡
    string_bytes l.fn.out ++ expression_list (expression_list_of (expressions_of l.value-items))

abbrev pub invariant-put_lets-loop-value : goal.invariant-put_lets-loop-value
invariant-put_lets-loop-value l =
    string_bytes l.out ++ lets (let_list_of (single_lets_of (drop l.value-index l.value-items))) ≡
    string_bytes l.fn.out ++ let_list (let_list_of (single_lets_of l.value-items))
