use Rattle.isle_printer_layout.proofs.Least.{IsLayout-layout, IsLayout-from_layout}
use Rattle.isle_printer_layout.proofs.laws.rules_give_least_choice.Goals as goal

pub returns : goal.returns
returns c = λ width s text. (IsLayout-layout width s text, IsLayout-from_layout width s text)
