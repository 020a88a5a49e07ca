use Rattle.std.proofs.Common.{refl, rules}
use Rattle.std.proofs.Output.{has_written_styled_append as then_written, has_written_styled_of_eq}
use Rattle.isle_base_source.proofs.error.show.write_count.Goals as goal

pub returns-in_ok-write_str-2 : goal.returns-in_ok-write_str-2
returns-in_ok-write_str-2 g c = λ flush ok.
    let found = c.in_ok-write_str.ensures.styled flush refl in
    let number = c.in_ok-write_number.ensures found.flush refl in
    let errors = c.in_ok-write_str-2.ensures.styled number.flush refl in
    has_written_styled_of_eq _ _ _ _ _ (search rules) (then_written _ _ _ _ _ _ (then_written _ _ _ _ _ _ found number) errors)
