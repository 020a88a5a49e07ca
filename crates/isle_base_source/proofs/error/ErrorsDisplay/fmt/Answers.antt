use Rattle.std.proofs.Common.{refl, rules}
use Rattle.std.proofs.Output.{has_written_styled_append as then_written, has_written_styled_of_eq}
use Rattle.isle_base_source.proofs.error.ErrorsDisplay.fmt.Goals as goal

pub returns-clause-styled : goal.returns-clause-styled
returns-clause-styled g c = λ flush ok.
    let errors = c.in_ok-write_errors.ensures flush refl in
    let count = c.write_count.ensures errors.flush ok in
    has_written_styled_of_eq _ _ _ _ _ (search rules) (then_written _ _ _ _ _ _ errors count)
