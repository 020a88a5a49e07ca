use Rattle.std.proofs.Common.{ap, ◌∙◌}
use Rattle.isle_program.specs.SeveralPrograms.{place_of}
use Rattle.isle_program.proofs.several_programs.place_of.Goals as goal

pub returns : goal.returns
returns c = λ terms knows. c.copied.ensures ∙ (c.get.ensures.value ∙ (knows c.as_str.result.now ∙ ap (place_of terms) c.as_str.ensures.value))
