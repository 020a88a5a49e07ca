use Rattle.std.proofs.Common.{refl}
use Rattle.std.proofs.Output.{has_written_styled_append as then_written, has_written_styled_of_eq}
use Rattle.isle_base_source.specs.Diagnostic.{label_text}
use Rattle.isle_base_source.proofs.Shown.{flat_map-more}
use Rattle.isle_base_source.proofs.error.show.write_labels.Goals as goal

pub loop-span-preserved : goal.loop-span-preserved
loop-span-preserved g c = λ flush.
    let before = c.loop-span.invariant flush in
    let label = c.in_ok-write_label.ensures before.flush refl in
    has_written_styled_of_eq _ _ _ _ _ (flat_map-more (label_text c.args.files.now) c.args.spans.now c.loop-span.span-index _ c.loop-span-test.true) (then_written _ _ _ _ _ _ before label)
