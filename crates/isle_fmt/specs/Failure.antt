-- The program, and why it writes no formatted text: what each reason says, and what standard error gets.
use Rattle.std.specs.Prelude.{◌≡◌, ℕ, List, Option, codes, string_bytes}
use Rattle.isle_base.specs.Diagnostics as diagnostics
use Rattle.isle_cli.specs.Failure as frame
use Rattle.isle_cli.specs.Words.{GiveWidth, given_width}
use Rattle.isle_cli.specs.declared.failure.Failure.{Failure}
use Rattle.isle_cli.specs.declared.program.Program.{Program}
use Rattle.isle_syntax.specs.Format.{IsFormatted, IsRefused}
use Rattle.isle_cli.specs.declared.failure.Failure.TheVariants as failures

-- the name of this program, and its usage
pub record IsThis (program : Program) : Type 0 where
  pub name : program.name.now ≡ codes "isle-fmt"
  pub usage : program.usage.now ≡ codes "usage: isle-fmt [WIDTH]\n"

-- this shows a refusal of the text, at one of its bytes or at its end, under the name `<stdin>`
abbrev pub IsRefusal : List ℕ → List ℕ → Type 0
IsRefusal text shown = diagnostics.IsRefusal (codes "<stdin>") text shown

-- the text that goes with a status; that of status 1 shows a refusal of some text
pub record IsDiagnostic (status : ℕ) (text : List ℕ) : Type 0 where
  pub refused : status ≡ 1 → (source : List ℕ) × IsRefusal source text
  pub usage : status ≡ 2 → text ≡ codes "usage: isle-fmt [WIDTH]\n"
  pub input : status ≡ 3 → text ≡ codes "isle-fmt: input is unreadable or not UTF-8\n"
  pub memory : status ≡ 4 → text ≡ codes "isle-fmt: out of memory\n"
  pub output : status ≡ 5 → text ≡ codes "isle-fmt: output failed\n"

-- the text is refused, with its diagnostic, or memory was refused
abbrev pub IsFormatFailure : Failure → List ℕ → Type 0
IsFormatFailure (failures.Refused diagnostic) text =
    IsRefused text × IsRefusal text (string_bytes diagnostic)
IsFormatFailure failures.Usage text = ⊥
IsFormatFailure failures.Input text = ⊥
IsFormatFailure failures.Memory text = Unit {0}
IsFormatFailure failures.Output text = ⊥

-- what a failure says of the words, and of the input and the output before and after
abbrev pub Explains : Failure → List (List ℕ) → Option (List ℕ) → Option (List ℕ) → Option (List ℕ) → Option (List ℕ) → Type 0
Explains failure words input input' output output' =
    frame.Explains (GiveWidth words) (λ text shown. IsRefused text × IsRefusal text shown) (λ text. IsFormatted (given_width words) text)
    failure input input' output output'
