use Rattle.std.proofs.Common.{◌∙◌, sym}
use Rattle.isle_encoding.proofs.VerificationCounts.{arm_counts, field_init_counts, spec_counts, spec_let_counts}
use Rattle.isle_encoding.proofs.Starts.{starts}
use Rattle.isle_encoding.proofs.verification.+spec.Goals as goal

pub put_spec_exprs-loop-value-init : goal.put_spec_exprs-loop-value-init
put_spec_exprs-loop-value-init t c =
    starts _ _ _ _ _ c.in_ok-put_number.ensures
    (c.len.ensures ∙ sym c.deref-value-items.ensures.len ∙ sym (spec_counts c.deref-value-items.result.now))

pub put_arms-loop-value-init : goal.put_arms-loop-value-init
put_arms-loop-value-init t c =
    starts _ _ _ _ _ c.in_ok-put_number.ensures
    (c.len.ensures ∙ sym c.deref-value-items.ensures.len ∙ sym (arm_counts c.deref-value-items.result.now))

pub put_spec_lets-loop-value-init : goal.put_spec_lets-loop-value-init
put_spec_lets-loop-value-init t c =
    starts _ _ _ _ _ c.in_ok-put_number.ensures
    (c.len.ensures ∙ sym c.deref-value-items.ensures.len ∙ sym (spec_let_counts c.deref-value-items.result.now))

pub put_field_inits-loop-value-init : goal.put_field_inits-loop-value-init
put_field_inits-loop-value-init t c =
    starts _ _ _ _ _ c.in_ok-put_number.ensures
    (c.len.ensures ∙ sym c.deref-value-items.ensures.len ∙ sym (field_init_counts c.deref-value-items.result.now))
