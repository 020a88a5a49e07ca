use Rattle.isle_printer.proofs.PrintLaw.{IsPrinted-IsSpelt, IsPrinted-ReadsBackIfWritable, IsPrinted-tokens, macro_arg-unwritable}
use Rattle.isle_printer.proofs.printer.laws.writable_definitions_read_back.Goals as goal

pub returns : goal.returns
returns c = record {
  spelt = IsPrinted-IsSpelt;
  exactly = IsPrinted-ReadsBackIfWritable;
  same_tokens = IsPrinted-tokens;
  macro_args = macro_arg-unwritable;
}
