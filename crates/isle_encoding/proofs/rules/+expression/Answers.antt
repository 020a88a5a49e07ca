use Rattle.std.proofs.Common.{◌∙◌, sym}
use Rattle.isle_encoding.proofs.RuleCounts.{expression_counts, let_counts}
use Rattle.isle_encoding.proofs.Starts.{starts}
use Rattle.isle_encoding.proofs.rules.+expression.Goals as goal

pub put_exprs-loop-value-init : goal.put_exprs-loop-value-init
put_exprs-loop-value-init t c =
    starts _ _ _ _ _ c.in_ok-put_number.ensures
    (c.len.ensures ∙ sym c.deref-value-items.ensures.len ∙ sym (expression_counts c.deref-value-items.result.now))

pub put_lets-loop-value-init : goal.put_lets-loop-value-init
put_lets-loop-value-init t c =
    starts _ _ _ _ _ c.in_ok-put_number.ensures
    (c.len.ensures ∙ sym c.deref-value-items.ensures.len ∙ sym (let_counts c.deref-value-items.result.now))
