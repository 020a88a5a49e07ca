use Rattle.std.proofs.Common.{refl}
use Rattle.std.proofs.Output.{has_written_styled_append as then_written}
use Rattle.isle_base_source.proofs.error.show.write_reason.Goals as goal

pub returns : goal.returns
returns g c = λ flush ok.
    let kind = c.in_ok-write_str.ensures.styled flush refl in
    then_written _ _ _ _ _ _ kind (c.write_str-2.ensures.styled kind.flush ok)
