use Rattle.std.proofs.Common.{◌+◌, [], ◌++◌, drop, ap, sym, ◌∙◌, append_assoc}
use Rattle.std.specs.List.{flat_map}
use Rattle.isle_ast_rules.specs.TreeView.{condition_of, conditions_of, pattern_of}
use Rattle.isle_ast_rules.specs.Tree.{Condition}
use Rattle.isle_expand_core.specs.Collected.{root_collected}
use Rattle.isle_expand_core.specs.Mentions.{root_uses, uses}
use Rattle.isle_expand_core.specs.Views.{uses_of}
use Rattle.isle_expand_core.proofs.Collecting.{collected_uses, root_collected_uses}
use Rattle.isle_expand_core.proofs.Steps.{view_more}
use Rattle.isle_expand_core.proofs.mentions.rule_uses.Goals as goal

pub loop-condition-init : goal.loop-condition-init
loop-condition-init c =
    let p = pattern_of c.args.rule.now.pattern in
    ap (λ us. us ++ flat_map (λ (d : Condition). uses d.pattern) (conditions_of c.deref-condition-items.result.now))
    (c.in_ok-add_root_uses.ensures ∙ ap (λ us. root_collected p (uses_of us)) c.new-found.ensures.items ∙ root_collected_uses p [])
    ∙ ap (λ xs. root_uses p ++ flat_map (λ (d : Condition). uses d.pattern) (conditions_of xs)) c.deref-condition-items.ensures.value

pub loop-condition-preserved : goal.loop-condition-preserved
loop-condition-preserved c =
    let items = c.deref-condition-items.result.now in
    let i = c.loop-condition.condition-index in
    let p = pattern_of c.condition-item.result.pattern in
    let found = uses_of c.loop-condition.found.items in
    let rest = flat_map (λ (d : Condition). uses d.pattern) (conditions_of (drop (i + 1) items)) in
    ap (λ us. us ++ rest) (c.in_ok-add_uses.ensures ∙ collected_uses p found) ∙ append_assoc found (uses p) rest
    ∙ sym (ap (λ cs. found ++ flat_map (λ (d : Condition). uses d.pattern) cs) (view_more condition_of items i c.condition-item.result c.loop-condition-test.true c.condition-item.is))
    ∙ c.loop-condition.invariant
