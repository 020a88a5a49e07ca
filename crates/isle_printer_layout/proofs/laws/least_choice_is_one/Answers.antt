use Rattle.isle_printer_layout.proofs.Least.{IsLeast-unique}
use Rattle.isle_printer_layout.proofs.laws.least_choice_is_one.Goals as goal

pub returns : goal.returns
returns c = IsLeast-unique
