use Rattle.isle_printer_layout.proofs.Least.{IsLeast-wider}
use Rattle.isle_printer_layout.proofs.laws.narrower_breaks_more.Goals as goal

pub returns : goal.returns
returns c = λ s narrow wide c d le p q. IsLeast-wider narrow wide s c d le p q
