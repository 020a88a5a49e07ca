use Rattle.std.proofs.Common.{◌∙◌, sym}
use Rattle.isle_encoding.proofs.RuleCounts.{pattern_counts}
use Rattle.isle_encoding.proofs.Starts.{starts}
use Rattle.isle_encoding.proofs.rules.+pattern.Goals as goal

pub put_patterns-loop-value-init : goal.put_patterns-loop-value-init
put_patterns-loop-value-init t c =
    starts _ _ _ _ _ c.in_ok-put_number.ensures
    (c.len.ensures ∙ sym c.deref-value-items.ensures.len ∙ sym (pattern_counts c.deref-value-items.result.now))
