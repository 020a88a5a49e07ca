use Rattle.std.proofs.Common.{true, false, ◌<◌, ◌≤◌, length, sym, subst, ◌∙◌}
use Rattle.isle_ast_names.proofs.ListComparison.{count, uneven_lists, lists_step, lists_end}
use Rattle.isle_ast_rules.proofs.SameLists.{patterns_are_lists}
use Rattle.isle_ast_rules.proofs.compare.patterns.+same.Goals as goal

pub same_patterns-returns-then-len : goal.same_patterns-returns-then-len
same_patterns-returns-then-len t c =
    uneven_lists patterns_are_lists c.args.patterns.now.items c.args.others.now.items
    (λ e. c.if-len.true (c.len.ensures ∙ count c.args.patterns.now ∙ e ∙ sym (count c.args.others.now) ∙ sym c.len-2.ensures))

pub same_patterns-returns-then-not-same_pattern : goal.same_patterns-returns-then-not-same_pattern
same_patterns-returns-then-not-same_pattern t c =
    let even = sym (c.len.ensures ∙ count c.args.patterns.now) ∙ c.if-len.false ∙ c.len-2.ensures ∙ count c.args.others.now in
    let ends : c.loop-i.i < length c.args.patterns.now.items = subst (λ n. c.loop-i.i < n) (c.len-i-end.ensures ∙ count c.args.patterns.now) c.loop-i-test.true in
    lists_step patterns_are_lists c.args.patterns.now.items c.args.others.now.items c.loop-i.i c.index.result.now c.index-in-loop-i.result.now false
    ends even c.index.ensures c.index-in-loop-i.ensures c.if-not-same_pattern.ensures c.loop-i.invariant

pub same_patterns-loop-i-preserved : goal.same_patterns-loop-i-preserved
same_patterns-loop-i-preserved t c =
    let even = sym (c.len.ensures ∙ count c.args.patterns.now) ∙ c.if-len.false ∙ c.len-2.ensures ∙ count c.args.others.now in
    let ends : c.loop-i.i < length c.args.patterns.now.items = subst (λ n. c.loop-i.i < n) (c.len-i-end.ensures ∙ count c.args.patterns.now) c.loop-i-test.true in
    lists_step patterns_are_lists c.args.patterns.now.items c.args.others.now.items c.loop-i.i c.index.result.now c.index-in-loop-i.result.now true
    ends even c.index.ensures c.index-in-loop-i.ensures (sym c.if-not-same_pattern.false ∙ c.same_pattern.ensures) c.loop-i.invariant

pub same_patterns-returns : goal.same_patterns-returns
same_patterns-returns t c =
    let even = sym (c.len.ensures ∙ count c.args.patterns.now) ∙ c.if-len.false ∙ c.len-2.ensures ∙ count c.args.others.now in
    let ends : length c.args.patterns.now.items ≤ c.loop-i.i = subst (λ n. n ≤ c.loop-i.i) (c.len-i-end.ensures ∙ count c.args.patterns.now) c.loop-i-test.false in
    lists_end patterns_are_lists c.args.patterns.now.items c.args.others.now.items c.loop-i.i ends even c.loop-i.invariant
