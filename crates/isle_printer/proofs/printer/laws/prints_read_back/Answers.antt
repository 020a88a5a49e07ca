use Rattle.isle_printer.proofs.PrintLaw.{IsPrinted-ReadsBack, IsPrinted-erased}
use Rattle.isle_printer.proofs.printer.laws.prints_read_back.Goals as goal

pub returns-clause-reads_back : goal.returns-clause-reads_back
returns-clause-reads_back c = IsPrinted-ReadsBack

pub returns-clause-erased : goal.returns-clause-erased
returns-clause-erased c = IsPrinted-erased
