use Rattle.std.proofs.Common.{refl}
use Rattle.std.proofs.Output.{has_written_styled_append as then_written, has_written_styled_of_eq}
use Rattle.isle_base_source.specs.Diagnostic.{error_text}
use Rattle.isle_base_source.proofs.Shown.{flat_map-then}
use Rattle.isle_base_source.proofs.error.show.write_errors.Goals as goal

pub loop-error-preserved : goal.loop-error-preserved
loop-error-preserved g c = λ flush.
    let before = c.loop-error.invariant flush in
    let error = c.in_ok-write_error.ensures before.flush refl in
    has_written_styled_of_eq _ _ _ _ _ (flat_map-then (error_text c.args.files.now) c.args.errors.now c.loop-error.error-index c.error-item.result c.loop-error-test.true c.error-item.is) (then_written _ _ _ _ _ _ before error)
