use Rattle.std.proofs.Common.{◌∙◌, sym}
use Rattle.isle_encoding.proofs.VerificationCounts.{model_field_counts}
use Rattle.isle_encoding.proofs.Starts.{starts}
use Rattle.isle_encoding.proofs.verification.+model.Goals as goal

pub put_model_fields-loop-value-init : goal.put_model_fields-loop-value-init
put_model_fields-loop-value-init t c =
    starts _ _ _ _ _ c.in_ok-put_number.ensures
    (c.len.ensures ∙ sym c.deref-value-items.ensures.len ∙ sym (model_field_counts c.deref-value-items.result.now))
