use Rattle.std.proofs.Common.{sym, ap, ◌∙◌}
use Rattle.std.proofs.lemmas.Result.{err_from_is_err_and}
use Rattle.isle_ast_rules.specs.TreeView.{pattern_of, pattern_list_of, patterns_of}
use Rattle.isle_expand_core.specs.Expansion.{expand, expand_list}
use Rattle.isle_expand_core.specs.Views.{macros_of}
use Rattle.isle_expand_core.proofs.Lists.{refuses, list_ends, list_grows, list_lacks}
use Rattle.isle_expand_core.proofs.patterns.+expand.Goals as goal

pub expand_list-returns-in_err-expand : goal.expand_list-returns-in_err-expand
expand_list-returns-in_err-expand t c =
    let ms = macros_of c.args.macros.now in
    let ps = c.deref-pattern-items.result.now in
    let p = err_from_is_err_and c.from_residual-in_err-expand.result c.from_residual-in_err-expand.ensures.1 in
    rw (p.1, p.2)
    (refuses c.in_err-expand.field-0.0 (expand (pattern_of c.pattern-item.result) ms) (expand_list (pattern_list_of (patterns_of c.args.patterns.now.items)) ms)
    (λ none. ap (λ qs. expand_list (pattern_list_of (patterns_of qs)) ms) (sym c.deref-pattern-items.ensures.value)
    ∙ list_lacks c.loop-pattern.made.items ps c.loop-pattern.pattern-index c.pattern-item.result ms c.loop-pattern-test.true c.pattern-item.is c.loop-pattern.invariant none)
    c.in_err-expand.ensures)

pub expand_list-loop-pattern-preserved : goal.expand_list-loop-pattern-preserved
expand_list-loop-pattern-preserved t c =
    list_grows c.loop-pattern.made.items c.push.new.self.items c.deref-pattern-items.result.now c.loop-pattern.pattern-index c.pattern-item.result c.in_ok-expand.field-0
    (macros_of c.args.macros.now) c.loop-pattern-test.true c.pattern-item.is c.in_ok-expand.ensures c.in_ok-push.ensures.items c.loop-pattern.invariant

pub expand_list-returns : goal.expand_list-returns
expand_list-returns t c =
    ap (λ ps. expand_list (pattern_list_of (patterns_of ps)) (macros_of c.args.macros.now)) (sym c.deref-pattern-items.ensures.value)
    ∙ list_ends c.loop-pattern.made.items c.deref-pattern-items.result.now c.loop-pattern.pattern-index (macros_of c.args.macros.now)
    c.loop-pattern-test.false c.loop-pattern.invariant
