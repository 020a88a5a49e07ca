use Rattle.std.proofs.Common.{true, false, ◌<◌, ◌≤◌, length, sym, subst, ◌∙◌}
use Rattle.isle_ast_names.proofs.ListComparison.{count, uneven_lists, lists_step, lists_end}
use Rattle.isle_printer_layout.proofs.SameLists.{items_are_lists}
use Rattle.isle_printer_layout.proofs.sexpr.+same.Goals as goal

pub same_items-returns-then-len : goal.same_items-returns-then-len
same_items-returns-then-len t c =
    uneven_lists items_are_lists c.args.items.now.items c.args.others.now.items
    (λ e. c.if-len.true (c.len.ensures ∙ count c.args.items.now ∙ e ∙ sym (count c.args.others.now) ∙ sym c.len-2.ensures))

pub same_items-returns-then-not-same_sexpr : goal.same_items-returns-then-not-same_sexpr
same_items-returns-then-not-same_sexpr t c =
    let even = sym (c.len.ensures ∙ count c.args.items.now) ∙ c.if-len.false ∙ c.len-2.ensures ∙ count c.args.others.now in
    let ends : c.loop-i.i < length c.args.items.now.items = subst (λ n. c.loop-i.i < n) (c.len-i-end.ensures ∙ count c.args.items.now) c.loop-i-test.true in
    lists_step items_are_lists c.args.items.now.items c.args.others.now.items c.loop-i.i c.index.result.now c.index-in-loop-i.result.now false
    ends even c.index.ensures c.index-in-loop-i.ensures c.if-not-same_sexpr.ensures c.loop-i.invariant

pub same_items-loop-i-preserved : goal.same_items-loop-i-preserved
same_items-loop-i-preserved t c =
    let even = sym (c.len.ensures ∙ count c.args.items.now) ∙ c.if-len.false ∙ c.len-2.ensures ∙ count c.args.others.now in
    let ends : c.loop-i.i < length c.args.items.now.items = subst (λ n. c.loop-i.i < n) (c.len-i-end.ensures ∙ count c.args.items.now) c.loop-i-test.true in
    lists_step items_are_lists c.args.items.now.items c.args.others.now.items c.loop-i.i c.index.result.now c.index-in-loop-i.result.now true
    ends even c.index.ensures c.index-in-loop-i.ensures (sym c.if-not-same_sexpr.false ∙ c.same_sexpr.ensures) c.loop-i.invariant

pub same_items-returns : goal.same_items-returns
same_items-returns t c =
    let even = sym (c.len.ensures ∙ count c.args.items.now) ∙ c.if-len.false ∙ c.len-2.ensures ∙ count c.args.others.now in
    let ends : length c.args.items.now.items ≤ c.loop-i.i = subst (λ n. n ≤ c.loop-i.i) (c.len-i-end.ensures ∙ count c.args.items.now) c.loop-i-test.false in
    lists_end items_are_lists c.args.items.now.items c.args.others.now.items c.loop-i.i ends even c.loop-i.invariant
