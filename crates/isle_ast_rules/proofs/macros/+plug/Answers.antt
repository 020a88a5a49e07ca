use Rattle.std.proofs.Common.{option_map, sym, ap, ◌∙◌}
use Rattle.isle_ast_rules.specs.Templates.{plug_list}
use Rattle.isle_ast_rules.specs.TreeView.{pattern_of, pattern_list_of, patterns_of}
use Rattle.isle_ast_rules.proofs.Templates.{list_ends, list_grows, list_lacks}
use Rattle.isle_ast_rules.proofs.macros.+plug.Goals as goal

pub plugged_list-returns-in-None : goal.plugged_list-returns-in-None
plugged_list-returns-in-None t c =
    list_lacks c.loop-pattern.made.items c.deref-pattern-items.result.now c.loop-pattern.pattern-index c.pattern-item.result (patterns_of c.args.macro_args.now)
    c.loop-pattern-test.true c.pattern-item.is (sym (ap (option_map pattern_of) c.in-None.is) ∙ c.in_ok-next.ensures) c.loop-pattern.invariant
    ∙ ap (λ ps. plug_list (pattern_list_of (patterns_of ps)) (patterns_of c.args.macro_args.now)) c.deref-pattern-items.ensures.value

pub plugged_list-loop-pattern-preserved : goal.plugged_list-loop-pattern-preserved
plugged_list-loop-pattern-preserved t c =
    list_grows c.loop-pattern.made.items c.push.new.self.items c.deref-pattern-items.result.now c.loop-pattern.pattern-index c.pattern-item.result c.in-Some.next
    (patterns_of c.args.macro_args.now) c.loop-pattern-test.true c.pattern-item.is (sym (ap (option_map pattern_of) c.in-Some.is) ∙ c.in_ok-next.ensures)
    c.in_ok-push-in-Some.ensures.items c.loop-pattern.invariant

pub plugged_list-returns : goal.plugged_list-returns
plugged_list-returns t c =
    list_ends c.loop-pattern.made.items c.deref-pattern-items.result.now c.loop-pattern.pattern-index (patterns_of c.args.macro_args.now)
    c.loop-pattern-test.false c.loop-pattern.invariant
    ∙ ap (λ ps. plug_list (pattern_list_of (patterns_of ps)) (patterns_of c.args.macro_args.now)) c.deref-pattern-items.ensures.value
