use Rattle.std.proofs.Common.{true, false, ◌<◌, ◌≤◌, length, sym, subst, ◌∙◌}
use Rattle.isle_ast_verification.proofs.Same.SpecLists.{specs_are_lists, arms_are_lists, spec_lets_are_lists, field_inits_are_lists}
use Rattle.isle_ast_names.proofs.ListComparison.{count, uneven_lists, lists_step, lists_end}
use Rattle.isle_ast_verification.proofs.compare.specs.+same.Goals as goal

pub same_specs-returns-then-len : goal.same_specs-returns-then-len
same_specs-returns-then-len t c =
    uneven_lists specs_are_lists c.args.exprs.now.items c.args.others.now.items
    (λ e. c.if-len.true (c.len.ensures ∙ count c.args.exprs.now ∙ e ∙ sym (count c.args.others.now) ∙ sym c.len-2.ensures))

pub same_specs-returns-then-not-same_spec : goal.same_specs-returns-then-not-same_spec
same_specs-returns-then-not-same_spec t c =
    let even = sym (c.len.ensures ∙ count c.args.exprs.now) ∙ c.if-len.false ∙ c.len-2.ensures ∙ count c.args.others.now in
    let ends : c.loop-i.i < length c.args.exprs.now.items = subst (λ n. c.loop-i.i < n) (c.len-i-end.ensures ∙ count c.args.exprs.now) c.loop-i-test.true in
    lists_step specs_are_lists c.args.exprs.now.items c.args.others.now.items c.loop-i.i c.index.result.now c.index-in-loop-i.result.now false
    ends even c.index.ensures c.index-in-loop-i.ensures c.if-not-same_spec.ensures c.loop-i.invariant

pub same_specs-loop-i-preserved : goal.same_specs-loop-i-preserved
same_specs-loop-i-preserved t c =
    let even = sym (c.len.ensures ∙ count c.args.exprs.now) ∙ c.if-len.false ∙ c.len-2.ensures ∙ count c.args.others.now in
    let ends : c.loop-i.i < length c.args.exprs.now.items = subst (λ n. c.loop-i.i < n) (c.len-i-end.ensures ∙ count c.args.exprs.now) c.loop-i-test.true in
    lists_step specs_are_lists c.args.exprs.now.items c.args.others.now.items c.loop-i.i c.index.result.now c.index-in-loop-i.result.now true
    ends even c.index.ensures c.index-in-loop-i.ensures (sym c.if-not-same_spec.false ∙ c.same_spec.ensures) c.loop-i.invariant

pub same_specs-returns : goal.same_specs-returns
same_specs-returns t c =
    let even = sym (c.len.ensures ∙ count c.args.exprs.now) ∙ c.if-len.false ∙ c.len-2.ensures ∙ count c.args.others.now in
    let ends : length c.args.exprs.now.items ≤ c.loop-i.i = subst (λ n. n ≤ c.loop-i.i) (c.len-i-end.ensures ∙ count c.args.exprs.now) c.loop-i-test.false in
    lists_end specs_are_lists c.args.exprs.now.items c.args.others.now.items c.loop-i.i ends even c.loop-i.invariant

pub same_arms-returns-then-len : goal.same_arms-returns-then-len
same_arms-returns-then-len t c =
    uneven_lists arms_are_lists c.args.arms.now.items c.args.others.now.items
    (λ e. c.if-len.true (c.len.ensures ∙ count c.args.arms.now ∙ e ∙ sym (count c.args.others.now) ∙ sym c.len-2.ensures))

pub same_arms-returns-then-not-same_arm : goal.same_arms-returns-then-not-same_arm
same_arms-returns-then-not-same_arm t c =
    let even = sym (c.len.ensures ∙ count c.args.arms.now) ∙ c.if-len.false ∙ c.len-2.ensures ∙ count c.args.others.now in
    let ends : c.loop-i.i < length c.args.arms.now.items = subst (λ n. c.loop-i.i < n) (c.len-i-end.ensures ∙ count c.args.arms.now) c.loop-i-test.true in
    lists_step arms_are_lists c.args.arms.now.items c.args.others.now.items c.loop-i.i c.index.result.now c.index-in-loop-i.result.now false
    ends even c.index.ensures c.index-in-loop-i.ensures c.if-not-same_arm.ensures c.loop-i.invariant

pub same_arms-loop-i-preserved : goal.same_arms-loop-i-preserved
same_arms-loop-i-preserved t c =
    let even = sym (c.len.ensures ∙ count c.args.arms.now) ∙ c.if-len.false ∙ c.len-2.ensures ∙ count c.args.others.now in
    let ends : c.loop-i.i < length c.args.arms.now.items = subst (λ n. c.loop-i.i < n) (c.len-i-end.ensures ∙ count c.args.arms.now) c.loop-i-test.true in
    lists_step arms_are_lists c.args.arms.now.items c.args.others.now.items c.loop-i.i c.index.result.now c.index-in-loop-i.result.now true
    ends even c.index.ensures c.index-in-loop-i.ensures (sym c.if-not-same_arm.false ∙ c.same_arm.ensures) c.loop-i.invariant

pub same_arms-returns : goal.same_arms-returns
same_arms-returns t c =
    let even = sym (c.len.ensures ∙ count c.args.arms.now) ∙ c.if-len.false ∙ c.len-2.ensures ∙ count c.args.others.now in
    let ends : length c.args.arms.now.items ≤ c.loop-i.i = subst (λ n. n ≤ c.loop-i.i) (c.len-i-end.ensures ∙ count c.args.arms.now) c.loop-i-test.false in
    lists_end arms_are_lists c.args.arms.now.items c.args.others.now.items c.loop-i.i ends even c.loop-i.invariant

pub same_spec_lets-returns-then-len : goal.same_spec_lets-returns-then-len
same_spec_lets-returns-then-len t c =
    uneven_lists spec_lets_are_lists c.args.defs.now.items c.args.others.now.items
    (λ e. c.if-len.true (c.len.ensures ∙ count c.args.defs.now ∙ e ∙ sym (count c.args.others.now) ∙ sym c.len-2.ensures))

pub same_spec_lets-returns-then-not-same_spec_let : goal.same_spec_lets-returns-then-not-same_spec_let
same_spec_lets-returns-then-not-same_spec_let t c =
    let even = sym (c.len.ensures ∙ count c.args.defs.now) ∙ c.if-len.false ∙ c.len-2.ensures ∙ count c.args.others.now in
    let ends : c.loop-i.i < length c.args.defs.now.items = subst (λ n. c.loop-i.i < n) (c.len-i-end.ensures ∙ count c.args.defs.now) c.loop-i-test.true in
    lists_step spec_lets_are_lists c.args.defs.now.items c.args.others.now.items c.loop-i.i c.index.result.now c.index-in-loop-i.result.now false
    ends even c.index.ensures c.index-in-loop-i.ensures c.if-not-same_spec_let.ensures c.loop-i.invariant

pub same_spec_lets-loop-i-preserved : goal.same_spec_lets-loop-i-preserved
same_spec_lets-loop-i-preserved t c =
    let even = sym (c.len.ensures ∙ count c.args.defs.now) ∙ c.if-len.false ∙ c.len-2.ensures ∙ count c.args.others.now in
    let ends : c.loop-i.i < length c.args.defs.now.items = subst (λ n. c.loop-i.i < n) (c.len-i-end.ensures ∙ count c.args.defs.now) c.loop-i-test.true in
    lists_step spec_lets_are_lists c.args.defs.now.items c.args.others.now.items c.loop-i.i c.index.result.now c.index-in-loop-i.result.now true
    ends even c.index.ensures c.index-in-loop-i.ensures (sym c.if-not-same_spec_let.false ∙ c.same_spec_let.ensures) c.loop-i.invariant

pub same_spec_lets-returns : goal.same_spec_lets-returns
same_spec_lets-returns t c =
    let even = sym (c.len.ensures ∙ count c.args.defs.now) ∙ c.if-len.false ∙ c.len-2.ensures ∙ count c.args.others.now in
    let ends : length c.args.defs.now.items ≤ c.loop-i.i = subst (λ n. n ≤ c.loop-i.i) (c.len-i-end.ensures ∙ count c.args.defs.now) c.loop-i-test.false in
    lists_end spec_lets_are_lists c.args.defs.now.items c.args.others.now.items c.loop-i.i ends even c.loop-i.invariant

pub same_field_inits-returns-then-len : goal.same_field_inits-returns-then-len
same_field_inits-returns-then-len t c =
    uneven_lists field_inits_are_lists c.args.fields.now.items c.args.others.now.items
    (λ e. c.if-len.true (c.len.ensures ∙ count c.args.fields.now ∙ e ∙ sym (count c.args.others.now) ∙ sym c.len-2.ensures))

pub same_field_inits-returns-then-not-same_field_init : goal.same_field_inits-returns-then-not-same_field_init
same_field_inits-returns-then-not-same_field_init t c =
    let even = sym (c.len.ensures ∙ count c.args.fields.now) ∙ c.if-len.false ∙ c.len-2.ensures ∙ count c.args.others.now in
    let ends : c.loop-i.i < length c.args.fields.now.items = subst (λ n. c.loop-i.i < n) (c.len-i-end.ensures ∙ count c.args.fields.now) c.loop-i-test.true in
    lists_step field_inits_are_lists c.args.fields.now.items c.args.others.now.items c.loop-i.i c.index.result.now c.index-in-loop-i.result.now false
    ends even c.index.ensures c.index-in-loop-i.ensures c.if-not-same_field_init.ensures c.loop-i.invariant

pub same_field_inits-loop-i-preserved : goal.same_field_inits-loop-i-preserved
same_field_inits-loop-i-preserved t c =
    let even = sym (c.len.ensures ∙ count c.args.fields.now) ∙ c.if-len.false ∙ c.len-2.ensures ∙ count c.args.others.now in
    let ends : c.loop-i.i < length c.args.fields.now.items = subst (λ n. c.loop-i.i < n) (c.len-i-end.ensures ∙ count c.args.fields.now) c.loop-i-test.true in
    lists_step field_inits_are_lists c.args.fields.now.items c.args.others.now.items c.loop-i.i c.index.result.now c.index-in-loop-i.result.now true
    ends even c.index.ensures c.index-in-loop-i.ensures (sym c.if-not-same_field_init.false ∙ c.same_field_init.ensures) c.loop-i.invariant

pub same_field_inits-returns : goal.same_field_inits-returns
same_field_inits-returns t c =
    let even = sym (c.len.ensures ∙ count c.args.fields.now) ∙ c.if-len.false ∙ c.len-2.ensures ∙ count c.args.others.now in
    let ends : length c.args.fields.now.items ≤ c.loop-i.i = subst (λ n. n ≤ c.loop-i.i) (c.len-i-end.ensures ∙ count c.args.fields.now) c.loop-i-test.false in
    lists_end field_inits_are_lists c.args.fields.now.items c.args.others.now.items c.loop-i.i ends even c.loop-i.invariant
