use Rattle.std.proofs.Common.{refl, rules}
use Rattle.std.proofs.Output.{has_written_styled_append as then_written, has_written_styled_of_eq}
use Rattle.isle_base_source.proofs.error.show.write_error_labels.Goals as goal

pub returns-in_ok-write_label-in-ShadowedError : goal.returns-in_ok-write_label-in-ShadowedError
returns-in_ok-write_label-in-ShadowedError g c = λ flush ok.
    let mask = c.in_ok-write_label-in-ShadowedError.ensures flush refl in
    let shadowed = c.write_labels-in-ShadowedError.ensures mask.flush ok in
    has_written_styled_of_eq _ _ _ _ _ (search rules) (then_written _ _ _ _ _ _ mask shadowed)
