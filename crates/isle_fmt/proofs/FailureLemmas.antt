-- What is said of a failure, and the text that goes with its status.
use Rattle.std.proofs.Common.{◌≡◌, ℕ, List, Option, codes, string_bytes, ap, subst, sym, ◌++◌}
use Rattle.isle_syntax.specs.Format.{IsFormatted, IsRefused}
use Rattle.isle_cli.proofs.FailureLemmas as lemmas
use Rattle.isle_cli.proofs.StreamLemmas.{ReadsText-weaker}
use Rattle.isle_cli.specs.Failure.{status_of, text_of}
use Rattle.isle_cli.specs.Streams.{ReadsText, AppendsBeginning, WritesBeginning}
use Rattle.isle_cli.specs.Words.{GiveWidth, given_width}
use Rattle.isle_cli.specs.declared.failure.Failure.{Failure}
use Rattle.isle_cli.specs.declared.failure.Failure.TheVariants as failures
use Rattle.isle_cli.specs.declared.program.Program.{Program}
use Rattle.isle_fmt.specs.Failure.{Explains, IsDiagnostic, IsRefusal, IsThis}

module _ (program : Program) (is : IsThis program) (words : List (List ℕ)) (input input' output output' faults faults' : Option (List ℕ)) where
  diagnostic_of : (failure : Failure) → Explains failure words input input' output output' → IsDiagnostic (status_of failure) (text_of program failure)
  diagnostic_of (failures.Refused diagnostic) why =
      let read = why.1 in
      record { refused = λ e. (read.text, read.holds.1); usage = λ e. absurd (cc); input = λ e. absurd (cc); memory = λ e. absurd (cc); output = λ e. absurd (cc) }
  diagnostic_of failures.Usage why =
      record { refused = λ e. absurd (cc); usage = λ e. is.usage; input = λ e. absurd (cc); memory = λ e. absurd (cc); output = λ e. absurd (cc) }
  diagnostic_of failures.Input why =
      record { refused = λ e. absurd (cc); usage = λ e. absurd (cc); input = λ e. ap (λ name. name ++ codes ": input is unreadable or not UTF-8\n") is.name; memory = λ e. absurd (cc); output = λ e. absurd (cc) }
  diagnostic_of failures.Memory why =
      record { refused = λ e. absurd (cc); usage = λ e. absurd (cc); input = λ e. absurd (cc); memory = λ e. ap (λ name. name ++ codes ": out of memory\n") is.name; output = λ e. absurd (cc) }
  diagnostic_of failures.Output why =
      record { refused = λ e. absurd (cc); usage = λ e. absurd (cc); input = λ e. absurd (cc); memory = λ e. absurd (cc); output = λ e. ap (λ name. name ++ codes ": output failed\n") is.name }

  pub refused-told : (status : ℕ) (failure : Failure) → Explains failure words input input' output output' → AppendsBeginning faults faults' (text_of program failure) → status ≡ status_of failure → status ≡ 1 → ReadsText input input' (λ text. IsRefused text × WritesBeginning faults faults' (IsRefusal text))
  refused-told status failure why told same one =
      ReadsText-weaker input input' _ _ (λ text said. (said.1.0, (said.0, said.1.1, said.2)))
      (lemmas.refused-told (GiveWidth words) (λ text shown. IsRefused text × IsRefusal text shown) (λ text. IsFormatted (given_width words) text)
      program input input' output output' faults faults' status failure why told same one)

  pub told-text : (status : ℕ) (failure : Failure) → Explains failure words input input' output output' → AppendsBeginning faults faults' (text_of program failure) → status ≡ status_of failure → WritesBeginning faults faults' (IsDiagnostic status)
  told-text status failure why told same =
      (text_of program failure, subst (λ s. IsDiagnostic s (text_of program failure)) (sym same) (diagnostic_of failure why), told)
