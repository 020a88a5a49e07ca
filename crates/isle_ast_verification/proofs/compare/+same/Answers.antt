use Rattle.std.proofs.Common.{true, false, ◌<◌, ◌≤◌, length, sym, subst, ◌∙◌}
use Rattle.isle_ast_verification.proofs.Same.ModelLists.{fields_are_lists}
use Rattle.isle_ast_names.proofs.ListComparison.{count, uneven_lists, lists_step, lists_end}
use Rattle.isle_ast_verification.proofs.compare.+same.Goals as goal

pub same_fields-returns-then-len : goal.same_fields-returns-then-len
same_fields-returns-then-len t c =
    uneven_lists fields_are_lists c.args.fields.now.items c.args.others.now.items
    (λ e. c.if-len.true (c.len.ensures ∙ count c.args.fields.now ∙ e ∙ sym (count c.args.others.now) ∙ sym c.len-2.ensures))

pub same_fields-returns-then-not-same_field : goal.same_fields-returns-then-not-same_field
same_fields-returns-then-not-same_field t c =
    let even = sym (c.len.ensures ∙ count c.args.fields.now) ∙ c.if-len.false ∙ c.len-2.ensures ∙ count c.args.others.now in
    let ends : c.loop-i.i < length c.args.fields.now.items = subst (λ n. c.loop-i.i < n) (c.len-i-end.ensures ∙ count c.args.fields.now) c.loop-i-test.true in
    lists_step fields_are_lists c.args.fields.now.items c.args.others.now.items c.loop-i.i c.index.result.now c.index-in-loop-i.result.now false
    ends even c.index.ensures c.index-in-loop-i.ensures c.if-not-same_field.ensures c.loop-i.invariant

pub same_fields-loop-i-preserved : goal.same_fields-loop-i-preserved
same_fields-loop-i-preserved t c =
    let even = sym (c.len.ensures ∙ count c.args.fields.now) ∙ c.if-len.false ∙ c.len-2.ensures ∙ count c.args.others.now in
    let ends : c.loop-i.i < length c.args.fields.now.items = subst (λ n. c.loop-i.i < n) (c.len-i-end.ensures ∙ count c.args.fields.now) c.loop-i-test.true in
    lists_step fields_are_lists c.args.fields.now.items c.args.others.now.items c.loop-i.i c.index.result.now c.index-in-loop-i.result.now true
    ends even c.index.ensures c.index-in-loop-i.ensures (sym c.if-not-same_field.false ∙ c.same_field.ensures) c.loop-i.invariant

pub same_fields-returns : goal.same_fields-returns
same_fields-returns t c =
    let even = sym (c.len.ensures ∙ count c.args.fields.now) ∙ c.if-len.false ∙ c.len-2.ensures ∙ count c.args.others.now in
    let ends : length c.args.fields.now.items ≤ c.loop-i.i = subst (λ n. n ≤ c.loop-i.i) (c.len-i-end.ensures ∙ count c.args.fields.now) c.loop-i-test.false in
    lists_end fields_are_lists c.args.fields.now.items c.args.others.now.items c.loop-i.i ends even c.loop-i.invariant
