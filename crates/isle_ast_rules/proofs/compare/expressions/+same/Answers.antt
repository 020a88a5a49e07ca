use Rattle.std.proofs.Common.{true, false, ◌<◌, ◌≤◌, length, sym, subst, ◌∙◌}
use Rattle.isle_ast_names.proofs.ListComparison.{count, uneven_lists, lists_step, lists_end}
use Rattle.isle_ast_rules.proofs.SameLists.{exprs_are_lists, lets_are_lists}
use Rattle.isle_ast_rules.proofs.compare.expressions.+same.Goals as goal

pub same_exprs-returns-then-len : goal.same_exprs-returns-then-len
same_exprs-returns-then-len t c =
    uneven_lists exprs_are_lists c.args.exprs.now.items c.args.others.now.items
    (λ e. c.if-len.true (c.len.ensures ∙ count c.args.exprs.now ∙ e ∙ sym (count c.args.others.now) ∙ sym c.len-2.ensures))

pub same_exprs-returns-then-not-same_expr : goal.same_exprs-returns-then-not-same_expr
same_exprs-returns-then-not-same_expr t c =
    let even = sym (c.len.ensures ∙ count c.args.exprs.now) ∙ c.if-len.false ∙ c.len-2.ensures ∙ count c.args.others.now in
    let ends : c.loop-i.i < length c.args.exprs.now.items = subst (λ n. c.loop-i.i < n) (c.len-i-end.ensures ∙ count c.args.exprs.now) c.loop-i-test.true in
    lists_step exprs_are_lists c.args.exprs.now.items c.args.others.now.items c.loop-i.i c.index.result.now c.index-in-loop-i.result.now false
    ends even c.index.ensures c.index-in-loop-i.ensures c.if-not-same_expr.ensures c.loop-i.invariant

pub same_exprs-loop-i-preserved : goal.same_exprs-loop-i-preserved
same_exprs-loop-i-preserved t c =
    let even = sym (c.len.ensures ∙ count c.args.exprs.now) ∙ c.if-len.false ∙ c.len-2.ensures ∙ count c.args.others.now in
    let ends : c.loop-i.i < length c.args.exprs.now.items = subst (λ n. c.loop-i.i < n) (c.len-i-end.ensures ∙ count c.args.exprs.now) c.loop-i-test.true in
    lists_step exprs_are_lists c.args.exprs.now.items c.args.others.now.items c.loop-i.i c.index.result.now c.index-in-loop-i.result.now true
    ends even c.index.ensures c.index-in-loop-i.ensures (sym c.if-not-same_expr.false ∙ c.same_expr.ensures) c.loop-i.invariant

pub same_exprs-returns : goal.same_exprs-returns
same_exprs-returns t c =
    let even = sym (c.len.ensures ∙ count c.args.exprs.now) ∙ c.if-len.false ∙ c.len-2.ensures ∙ count c.args.others.now in
    let ends : length c.args.exprs.now.items ≤ c.loop-i.i = subst (λ n. n ≤ c.loop-i.i) (c.len-i-end.ensures ∙ count c.args.exprs.now) c.loop-i-test.false in
    lists_end exprs_are_lists c.args.exprs.now.items c.args.others.now.items c.loop-i.i ends even c.loop-i.invariant

pub same_let_defs-returns-then-len : goal.same_let_defs-returns-then-len
same_let_defs-returns-then-len t c =
    uneven_lists lets_are_lists c.args.defs.now.items c.args.others.now.items
    (λ e. c.if-len.true (c.len.ensures ∙ count c.args.defs.now ∙ e ∙ sym (count c.args.others.now) ∙ sym c.len-2.ensures))

pub same_let_defs-returns-then-not-same_let : goal.same_let_defs-returns-then-not-same_let
same_let_defs-returns-then-not-same_let t c =
    let even = sym (c.len.ensures ∙ count c.args.defs.now) ∙ c.if-len.false ∙ c.len-2.ensures ∙ count c.args.others.now in
    let ends : c.loop-i.i < length c.args.defs.now.items = subst (λ n. c.loop-i.i < n) (c.len-i-end.ensures ∙ count c.args.defs.now) c.loop-i-test.true in
    lists_step lets_are_lists c.args.defs.now.items c.args.others.now.items c.loop-i.i c.index.result.now c.index-in-loop-i.result.now false
    ends even c.index.ensures c.index-in-loop-i.ensures c.if-not-same_let.ensures c.loop-i.invariant

pub same_let_defs-loop-i-preserved : goal.same_let_defs-loop-i-preserved
same_let_defs-loop-i-preserved t c =
    let even = sym (c.len.ensures ∙ count c.args.defs.now) ∙ c.if-len.false ∙ c.len-2.ensures ∙ count c.args.others.now in
    let ends : c.loop-i.i < length c.args.defs.now.items = subst (λ n. c.loop-i.i < n) (c.len-i-end.ensures ∙ count c.args.defs.now) c.loop-i-test.true in
    lists_step lets_are_lists c.args.defs.now.items c.args.others.now.items c.loop-i.i c.index.result.now c.index-in-loop-i.result.now true
    ends even c.index.ensures c.index-in-loop-i.ensures (sym c.if-not-same_let.false ∙ c.same_let.ensures) c.loop-i.invariant

pub same_let_defs-returns : goal.same_let_defs-returns
same_let_defs-returns t c =
    let even = sym (c.len.ensures ∙ count c.args.defs.now) ∙ c.if-len.false ∙ c.len-2.ensures ∙ count c.args.others.now in
    let ends : length c.args.defs.now.items ≤ c.loop-i.i = subst (λ n. n ≤ c.loop-i.i) (c.len-i-end.ensures ∙ count c.args.defs.now) c.loop-i-test.false in
    lists_end lets_are_lists c.args.defs.now.items c.args.others.now.items c.loop-i.i ends even c.loop-i.invariant
