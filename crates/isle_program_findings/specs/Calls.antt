-- What the words of a call ask of a program, what is told where that is no work, and what a failure says.
use Rattle.std.specs.Prelude.{◌≡◌, ◌⊎◌, ℕ, List, Option, None, Some}
use Rattle.std.specs.Io.KnownBytes.{Appends, Keeps}
use Rattle.isle_cli.specs.Arguments.{Asked, asked, help_asked, version_asked}
use Rattle.isle_cli.specs.Failure.{IsDiagnostic, status_of}
use Rattle.isle_cli.specs.Streams.{AppendsBeginning, WritesBeginning}
use Rattle.isle_cli.specs.Usage.{IsDiagnosticOf, words_text}
use Rattle.isle_cli.specs.declared.arguments.Options.{Options}
use Rattle.isle_cli.specs.declared.failure.Failure.{Failure}
use Rattle.isle_cli.specs.declared.failure.Failure.TheVariants as failures
use Rattle.isle_cli.specs.declared.program.Program.{Program}
use Rattle.isle_program_findings.specs.declared.calls.Aside.{Aside}
use Rattle.isle_program_findings.specs.declared.calls.Aside.TheVariants as asides

-- the words ask this of the program that has these options
abbrev pub Ask : (AreOptions : Options → Type 0) → List (List ℕ) → Option Asked → Type 0
Ask AreOptions words what = (options : Options) × AreOptions options × (asked options words ≡ what)

-- they ask something of it, and P holds of what they ask
abbrev pub AsAsked : (AreOptions : Options → Type 0) → List (List ℕ) → (Asked → Type 0) → Type 0
AsAsked AreOptions words P = (what : Asked) × Ask AreOptions words (Some what) × P what

-- the text that goes with a status past 1
abbrev pub IsFailureText : (IsProgram : Program → Type 0) → ℕ → List ℕ → Type 0
IsFailureText IsProgram status text = (program : Program) × IsProgram program × IsDiagnostic program status text

-- the same, where the program is called with these words
abbrev pub IsFailureTextOf : (IsProgram : Program → Type 0) → (AreOptions AreAllOptions : Options → Type 0) → (words : List (List ℕ)) → (status : ℕ) → (text : List ℕ) → Type 0
IsFailureTextOf IsProgram AreOptions AreAllOptions words status text =
    (program : Program) × (own : Options) × (all : Options) × IsProgram program × AreOptions own × AreAllOptions all
    × IsDiagnosticOf program own all words status text

-- the words ask for no work
abbrev pub IsAside : Options → List (List ℕ) → Aside → Type 0
IsAside options words asides.Help = asked options words ≡ Some help_asked
IsAside options words asides.Version = asked options words ≡ Some version_asked
IsAside options words (asides.Failed failure) = (failure ≡ failures.Memory) ⊎ (failure ≡ failures.Usage) × (asked options words ≡ None)

-- a text about the program is written, or the output got a beginning of it
pub record TellsText (program : Program) (text : List ℕ) (status : ℕ) (output output' faults faults' : Option (List ℕ)) : Type 0 where
  pub statuses : (status ≡ 0) ⊎ (status ≡ 5)
  pub done : status ≡ 0 → Appends output output' text
  pub cut : status ≡ 5 → AppendsBeginning output output' text
  pub quiet : status ≡ 0 → Keeps faults faults'
  pub told : status ≡ 5 → WritesBeginning faults faults' (IsDiagnostic program status)

-- what is told of it; an option that is none of these is unknown
abbrev pub TellsAside : Program → Options → List (List ℕ) → Aside → ℕ → (output output' faults faults' : Option (List ℕ)) → Type 0
TellsAside program options words asides.Help status output output' faults faults' = TellsText program program.help.now status output output' faults faults'
TellsAside program options words asides.Version status output output' faults faults' = TellsText program program.version.now status output output' faults faults'
TellsAside program options words (asides.Failed failure) status output output' faults faults' =
    (status ≡ status_of failure) × Keeps output output' × AppendsBeginning faults faults' (words_text program options words failure)

-- What a failure of work says, which refuses no text: the words are misused, or the output is left alone, or it is cut.
abbrev pub ExplainsBy : (Misused Kept Cut : Type 0) → Failure → Type 0
ExplainsBy Misused Kept Cut (failures.Refused text) = ⊥
ExplainsBy Misused Kept Cut failures.Usage = Misused
ExplainsBy Misused Kept Cut failures.Input = ⊥
ExplainsBy Misused Kept Cut failures.Memory = Kept
ExplainsBy Misused Kept Cut failures.Output = Cut
