-- Why a program doesn't do its work: what each reason says, its status, and what standard error gets.
use Rattle.std.specs.Prelude.{◌≡◌, ℕ, List, Option, ◌++◌, codes, string_bytes}
use Rattle.std.specs.Io.KnownBytes.{Keeps}
use Rattle.isle_cli.specs.Streams.{ReadsText, WritesBeginning}
use Rattle.isle_cli.specs.declared.failure.Failure.{Failure}
use Rattle.isle_cli.specs.declared.failure.Failure.TheVariants as failures
use Rattle.isle_cli.specs.declared.program.Program.{Program}
use Rattle.isle_cli.specs.declared.streams.ReadFault.{ReadFault}
use Rattle.isle_cli.specs.declared.streams.ReadFault.TheVariants as read_faults

abbrev pub status_of : Failure → ℕ
status_of (failures.Refused _) = 1
status_of failures.Usage = 2
status_of failures.Input = 3
status_of failures.Memory = 4
status_of failures.Output = 5

-- what standard error gets
abbrev pub text_of : Program → Failure → List ℕ
text_of program (failures.Refused text) = string_bytes text
text_of program failures.Usage = program.usage.now
text_of program failures.Input = program.name.now ++ codes ": input is unreadable or not UTF-8\n"
text_of program failures.Memory = program.name.now ++ codes ": out of memory\n"
text_of program failures.Output = program.name.now ++ codes ": output failed\n"

-- the text that goes with a status past 1
pub record IsDiagnostic (program : Program) (status : ℕ) (text : List ℕ) : Type 0 where
  pub usage : status ≡ 2 → text ≡ program.usage.now
  pub input : status ≡ 3 → text ≡ program.name.now ++ codes ": input is unreadable or not UTF-8\n"
  pub memory : status ≡ 4 → text ≡ program.name.now ++ codes ": out of memory\n"
  pub output : status ≡ 5 → text ≡ program.name.now ++ codes ": output failed\n"

-- what a fault of reading is to a program
abbrev pub read_failure : ReadFault → Failure
read_failure read_faults.Memory = failures.Memory
read_failure _ = failures.Input

-- What a failure says of standard input and output, before and after, where the words are usable or not. Of the whole
-- input Refused holds with the text that is told, or Written with the text of which the output got a beginning.
abbrev pub Explains : (usable : Type 0) (Refused Written : List ℕ → List ℕ → Type 0) → Failure → (input input' output output' : Option (List ℕ)) → Type 0
Explains usable Refused Written (failures.Refused diagnostic) input input' output output' =
    usable × ReadsText input input' (λ text. Refused text (string_bytes diagnostic)) × Keeps output output'
Explains usable Refused Written failures.Usage input input' output output' = (¬ usable) × Keeps input input' × Keeps output output'
Explains usable Refused Written failures.Input input input' output output' = usable × Keeps output output'
Explains usable Refused Written failures.Memory input input' output output' = usable × Keeps output output'
Explains usable Refused Written failures.Output input input' output output' =
    usable × ReadsText input input' (λ text. WritesBeginning output output' (Written text))
