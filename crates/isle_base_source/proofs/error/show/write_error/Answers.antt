use Rattle.std.proofs.Common.{refl}
use Rattle.std.proofs.Output.{has_written_styled_append as then_written}
use Rattle.isle_base_source.proofs.error.show.write_error.Goals as goal

pub returns : goal.returns
returns g c = λ flush ok.
    let message = c.in_ok-write_message.ensures flush refl in
    let line_end = c.in_ok-write_str.ensures.styled message.flush refl in
    let labels = c.in_ok-write_error_labels.ensures line_end.flush refl in
    let empty = c.write_str-2.ensures.styled labels.flush ok in
    then_written _ _ _ _ _ _ (then_written _ _ _ _ _ _ (then_written _ _ _ _ _ _ message line_end) labels) empty
