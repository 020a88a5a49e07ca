use Rattle.isle_printer_layout.proofs.ReadBackLaw.{render-lexes}
use Rattle.isle_printer_layout.proofs.laws.rendered_text_lexes.Goals as goal

pub returns : goal.returns
returns c = render-lexes
