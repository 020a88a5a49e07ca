use Rattle.std.proofs.Common.{◌≡◌, true, string_bytes, rules}
use Rattle.isle_ast.specs.MacroArgs.{definitions_have_macro_arg}
use Rattle.isle_ast.specs.TreeView.{definitions_of}
use Rattle.isle_printer.specs.Printed.{printed_text}
use Rattle.isle_printer.proofs.Printing.{IsPrinted-from_text, WiderHasNoMoreLines-from_text}
use Rattle.isle_printer.proofs.PrintLaw.{IsPrinted-ReadsBack, IsPrinted-ReadsBackIfWritable, macro_arg-unwritable}
use Rattle.isle_printer.proofs.printer.print_counted.Goals as goal

pub returns-clause-printed : goal.returns-clause-printed
returns-clause-printed c =
    let is : string_bytes c.put_definitions.new.out ≡ printed_text c.args.width (definitions_of c.args.defs.now) = search rules in
    IsPrinted-from_text _ _ _ (search rules) is

pub returns-clause-lines : goal.returns-clause-lines
returns-clause-lines c =
    let is : string_bytes c.put_definitions.new.out ≡ printed_text c.args.width (definitions_of c.args.defs.now) = search rules in
    WiderHasNoMoreLines-from_text _ _ _ is

pub returns-clause-reads_back : goal.returns-clause-reads_back
returns-clause-reads_back c =
    let is : string_bytes c.put_definitions.new.out ≡ printed_text c.args.width (definitions_of c.args.defs.now) = search rules in
    IsPrinted-ReadsBack _ _ _ (IsPrinted-from_text _ _ _ (search rules) is)

pub returns-clause-writable : goal.returns-clause-writable
returns-clause-writable c =
    let is : string_bytes c.put_definitions.new.out ≡ printed_text c.args.width (definitions_of c.args.defs.now) = search rules in
    IsPrinted-ReadsBackIfWritable _ _ _ (IsPrinted-from_text _ _ _ (search rules) is)

pub returns-in_err-put_definitions-clause-unwritable : goal.returns-in_err-put_definitions-clause-unwritable
returns-in_err-put_definitions-clause-unwritable c is writable =
    let holds : definitions_have_macro_arg (definitions_of c.args.defs.now) ≡ true = search rules in
    macro_arg-unwritable _ holds writable

pub returns-then-any_has_macro_arg-clause-unwritable : goal.returns-then-any_has_macro_arg-clause-unwritable
returns-then-any_has_macro_arg-clause-unwritable c is writable =
    let holds : definitions_have_macro_arg (definitions_of c.args.defs.now) ≡ true = search rules in
    macro_arg-unwritable _ holds writable
