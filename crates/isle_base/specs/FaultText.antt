-- The text of a fault.
use Rattle.std.specs.Prelude.{ℕ, List, codes}
use Rattle.isle_base_source.specs.Diagnostic.{message}
use Rattle.isle_base.specs.declared.fault.Fault.{Fault}
use Rattle.isle_base.specs.declared.fault.Fault.TheVariants as faults

-- the message of an error of a lexer, a parser or the formatter
abbrev pub fault_text : Fault → List ℕ
fault_text (faults.Error e) = message e
fault_text faults.Failed = codes "the lexer already failed on this text"
fault_text faults.Memory = codes "out of memory"
