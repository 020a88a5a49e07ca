use Rattle.std.proofs.Common.{refl}
use Rattle.std.proofs.Output.{has_written_styled_append as then_written}
use Rattle.isle_base_source.proofs.error.show.write_place.Goals as goal

pub returns : goal.returns
returns g c = λ flush ok.
    let name = c.in_ok-write_str.ensures.styled flush refl in
    let before_number = c.in_ok-write_str-2.ensures.styled name.flush refl in
    let number = c.in_ok-write_number.ensures before_number.flush refl in
    let before_column = c.in_ok-write_str-3.ensures.styled number.flush refl in
    let column = c.in_ok-write_number-2.ensures before_column.flush refl in
    let before_line = c.in_ok-write_str-4.ensures.styled column.flush refl in
    let line = c.write_str-5.ensures.styled before_line.flush ok in
    let to_number = then_written _ _ _ _ _ _ (then_written _ _ _ _ _ _ name before_number) number in
    let to_column = then_written _ _ _ _ _ _ (then_written _ _ _ _ _ _ to_number before_column) column in
    then_written _ _ _ _ _ _ (then_written _ _ _ _ _ _ to_column before_line) line
