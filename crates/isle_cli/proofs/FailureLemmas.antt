-- What is said of a failure, and the text that goes with its status.
use Rattle.std.proofs.Common.{◌≡◌, ◌++◌, ℕ, List, Option, None, Some, codes, string_bytes, take, refl, ap, subst, sym, ◌∙◌}
use Rattle.std.specs.Io.KnownBytes.{Appends, Keeps}
use Rattle.isle_cli.specs.Streams.{ReadsText, AppendsBeginning, WritesBeginning}
use Rattle.isle_cli.specs.declared.failure.Failure.{Failure}
use Rattle.isle_cli.specs.declared.failure.Failure.TheVariants as failures
use Rattle.isle_cli.specs.declared.program.Program.{Program}
use Rattle.isle_cli.specs.declared.streams.ReadFault.{ReadFault}
use Rattle.isle_cli.specs.declared.streams.ReadFault.TheVariants as read_faults
use Rattle.isle_cli.specs.Failure.{read_failure, status_of, text_of, IsDiagnostic, Explains}
use Rattle.isle_cli.proofs.StreamLemmas.{ReadsText-weaker}

-- any fault of reading but want of memory is one of the input
pub fails_reading : (fault : ReadFault) → ¬ (fault ≡ read_faults.Memory) → failures.Input ≡ read_failure fault
fails_reading read_faults.Memory other = absurd (other refl)
fails_reading _ other = refl

-- the text of a failure goes with its status
pub diagnostic-of : (program : Program) (failure : Failure) → IsDiagnostic program (status_of failure) (text_of program failure)
diagnostic-of program (failures.Refused text) = record { usage = λ e. absurd (cc); input = λ e. absurd (cc); memory = λ e. absurd (cc); output = λ e. absurd (cc) }
diagnostic-of program failures.Usage = record { usage = λ e. refl; input = λ e. absurd (cc); memory = λ e. absurd (cc); output = λ e. absurd (cc) }
diagnostic-of program failures.Input = record { usage = λ e. absurd (cc); input = λ e. refl; memory = λ e. absurd (cc); output = λ e. absurd (cc) }
diagnostic-of program failures.Memory = record { usage = λ e. absurd (cc); input = λ e. absurd (cc); memory = λ e. refl; output = λ e. absurd (cc) }
diagnostic-of program failures.Output = record { usage = λ e. absurd (cc); input = λ e. absurd (cc); memory = λ e. absurd (cc); output = λ e. refl }

-- what a report of a failure writes goes with the status
pub told-text : (program : Program) (status : ℕ) (failure : Failure) (faults faults' : Option (List ℕ)) → AppendsBeginning faults faults' (text_of program failure) → status ≡ status_of failure → WritesBeginning faults faults' (IsDiagnostic program status)
told-text program status failure faults faults' told is =
    (text_of program failure, subst (λ s. IsDiagnostic program s (text_of program failure)) (sym is) (diagnostic-of program failure), told)

-- what is written after nothing was
Keeps-Appends : (a b c : Option (List ℕ)) (bytes : List ℕ) → Keeps a b → Appends b c bytes → Appends a c bytes
Keeps-Appends None b c bytes kept added = tt
Keeps-Appends (Some xs) None c bytes kept added = absurd kept
Keeps-Appends (Some xs) (Some ys) None bytes kept added = absurd added
Keeps-Appends (Some xs) (Some ys) (Some zs) bytes kept added = added ∙ ap (λ l. l ++ bytes) kept

-- the same, where nothing was written before the report
pub first-told-text : (program : Program) (status : ℕ) (failure : Failure) (faults kept faults' : Option (List ℕ)) → Keeps faults kept
    → AppendsBeginning kept faults' (text_of program failure) → status ≡ status_of failure → WritesBeginning faults faults' (IsDiagnostic program status)
first-told-text program status failure faults kept faults' keeps told is =
    told-text program status failure faults faults' (told.0, Keeps-Appends faults kept faults' (take told.0 (text_of program failure)) keeps told.1) is

-- A failure that ends with status 1 is a refusal of the whole input, and its text is written.
module _ (usable : Type 0) (Refused Written : List ℕ → List ℕ → Type 0) (program : Program) (input input' output output' faults faults' : Option (List ℕ)) where
  refused_text : (failure : Failure) → Explains usable Refused Written failure input input' output output' → AppendsBeginning faults faults' (text_of program failure) → status_of failure ≡ 1
      → ReadsText input input' (λ text. WritesBeginning faults faults' (Refused text))
  refused_text (failures.Refused diagnostic) why told one =
      ReadsText-weaker input input' _ _ (λ text said. (string_bytes diagnostic, said, told)) why.1
  refused_text failures.Usage why told one = absurd (cc)
  refused_text failures.Input why told one = absurd (cc)
  refused_text failures.Memory why told one = absurd (cc)
  refused_text failures.Output why told one = absurd (cc)

  pub refused-told : (status : ℕ) (failure : Failure) → Explains usable Refused Written failure input input' output output' → AppendsBeginning faults faults' (text_of program failure) → status ≡ status_of failure → status ≡ 1
      → ReadsText input input' (λ text. WritesBeginning faults faults' (Refused text))
  refused-told status failure why told is one = refused_text failure why told (sym is ∙ one)

-- A program of this name and usage, wherever these texts lie; a failure shows neither its help nor its version.
abbrev pub program_of : (name usage : List ℕ) → Program
program_of name usage =
    record {
      name = record { ref_ptr = (0, 0); now = name };
      usage = record { ref_ptr = (0, 0); now = usage };
      help = record { ref_ptr = (0, 0); now = codes "" };
      version = record { ref_ptr = (0, 0); now = codes "" };
    }
