use Rattle.isle_printer.proofs.ShortLines.Definitions.{IsPrinted-HasShortLines}
use Rattle.isle_printer.proofs.printer.laws.prints_have_short_lines.Goals as goal

pub returns : goal.returns
returns c = IsPrinted-HasShortLines
