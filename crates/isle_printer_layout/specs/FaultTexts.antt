-- The text of an error of the printer.
use Rattle.std.specs.Prelude.{ℕ, List, codes}
use Rattle.isle_printer_layout.specs.declared.sexpr.PrintFault.{PrintFault}
use Rattle.isle_printer_layout.specs.declared.sexpr.PrintFault.TheVariants as faults

abbrev pub print_fault_text : PrintFault → List ℕ
print_fault_text faults.MacroArg = codes "the argument of a macro has no print"
print_fault_text faults.Memory = codes "out of memory"
