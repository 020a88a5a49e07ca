-- The program: its name, its usage, its options, and what its words ask for.
use Rattle.std.specs.Prelude.{◌≡◌, ℕ, List, [], ◌∷◌, None, codes, map}
use Rattle.isle_cli.specs.Arguments.{AnswersTo, Asked, asked}
use Rattle.isle_cli.specs.Usage.{IsDiagnosticOf}
use Rattle.isle_cli.specs.declared.arguments.Options.{Options}
use Rattle.isle_cli.specs.declared.program.Program.{Program}
use Rattle.isle_tidy.specs.Doing.{HasNames}

-- the name of this program, and its usage
pub record IsThis (program : Program) : Type 0 where
  pub name : program.name.now ≡ codes "isle-tidy"
  pub usage : program.usage.now ≡ codes "usage: isle-tidy [--check] [--diff] [--exclude PATTERN] [--stdin-name NAME] [--program NAME] [--all-programs] [FILE ..]\n"

-- its own options: `--check` and `--diff`, and `--exclude` with a value
pub record AreOwn (options : Options) : Type 0 where
  pub flags : map (λ flag. flag.now) options.flags.now ≡ codes "--check" ∷ codes "--diff" ∷ []
  pub settings : map (λ setting. setting.now) options.settings.now ≡ codes "--exclude" ∷ []

-- its own options, and those that ask for programs of a manifest
pub record AreAll (options : Options) : Type 0 where
  pub flags : map (λ flag. flag.now) options.flags.now ≡ codes "--check" ∷ codes "--diff" ∷ codes "--all-programs" ∷ []
  pub settings : map (λ setting. setting.now) options.settings.now ≡ codes "--exclude" ∷ codes "--program" ∷ []

-- the words ask this program for something, and P holds of both
abbrev pub AsAsked : List (List ℕ) → (Program → Asked → Type 0) → Type 0
AsAsked words P = (program : Program) × (options : Options) × IsThis program × AreOwn options × AnswersTo (asked options words) (P program)

-- they ask it for nothing: they are none of the usage
abbrev pub AskForNothing : List (List ℕ) → Type 0
AskForNothing words = (options : Options) × AreOwn options × (asked options words ≡ None)

-- they ask it to tidy what they name
abbrev pub HaveNames : List (List ℕ) → Type 0
HaveNames words = AsAsked words (λ program request. HasNames request)

-- the text that goes with a status past 1, where the program is called with these words
abbrev pub IsDiagnostic : (words : List (List ℕ)) (status : ℕ) (text : List ℕ) → Type 0
IsDiagnostic words status text =
    (program : Program) × (own : Options) × (all : Options) × IsThis program × AreOwn own × AreAll all
    × IsDiagnosticOf program own all words status text
