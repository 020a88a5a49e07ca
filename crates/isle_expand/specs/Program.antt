-- The program: its name, its usage, its options, and what its words ask for.
use Rattle.std.specs.Prelude.{◌≡◌, ◌⊎◌, ℕ, List, [], ◌∷◌, Option, None, Some, codes, map}
use Rattle.std.specs.Str.Parse.{digits_value}
use Rattle.isle_cli.specs.Arguments.{AnswersTo, Asked, Given, asked, last_setting, work_asked}
use Rattle.isle_cli.specs.Usage.{IsDiagnosticOf}
use Rattle.isle_cli.specs.Words.{IsWidth}
use Rattle.isle_cli.specs.declared.arguments.Options.{Options}
use Rattle.isle_cli.specs.declared.program.Program.{Program}

-- the name of this program, and its usage
pub record IsThis (program : Program) : Type 0 where
  pub name : program.name.now ≡ codes "isle-expand"
  pub usage : program.usage.now ≡ codes "usage: isle-expand [--width N] [--exclude PATTERN] [--stdin-name NAME] [--program NAME] [FILE ..]\n"

-- its own options: `--width` and `--exclude`, with values
pub record AreOwn (options : Options) : Type 0 where
  pub flags : map (λ flag. flag.now) options.flags.now ≡ []
  pub settings : map (λ setting. setting.now) options.settings.now ≡ codes "--width" ∷ codes "--exclude" ∷ []

-- its own options, and that which asks for a program of a manifest
pub record AreAll (options : Options) : Type 0 where
  pub flags : map (λ flag. flag.now) options.flags.now ≡ []
  pub settings : map (λ setting. setting.now) options.settings.now ≡ codes "--width" ∷ codes "--exclude" ∷ codes "--program" ∷ []

-- a value of `--width` is one, where it is given
abbrev pub IsWidthSetting : Option (List ℕ) → Type 0
IsWidthSetting None = Unit {0}
IsWidthSetting (Some word) = IsWidth word

abbrev pub width_setting : Option (List ℕ) → ℕ
width_setting None = 78
width_setting (Some word) = digits_value 10 word

-- the arguments give a width: the last value of `--width` is one, or it isn't given
abbrev pub GivesWidth : List Given → Type 0
GivesWidth given = IsWidthSetting (last_setting (codes "--width") None given)

-- the width that they give, 78 without `--width`
abbrev pub given_width : List Given → ℕ
given_width given = width_setting (last_setting (codes "--width") None given)

-- the words ask this program for something, and P holds of both
abbrev pub AsAsked : List (List ℕ) → (Program → Asked → Type 0) → Type 0
AsAsked words P = (program : Program) × (options : Options) × IsThis program × AreOwn options × AnswersTo (asked options words) (P program)

-- nothing is asked for, or work without a width
abbrev pub IsMisuse : Option Asked → Type 0
IsMisuse answer = (answer ≡ None) ⊎ ((given : List Given) × (answer ≡ Some (work_asked given)) × (¬ (GivesWidth given)))

-- the words ask this program for nothing: they are none of the usage
abbrev pub AskForNothing : List (List ℕ) → Type 0
AskForNothing words = (options : Options) × AreOwn options × IsMisuse (asked options words)

-- the text that goes with a status past 1, where the program is called with these words
abbrev pub IsDiagnostic : (words : List (List ℕ)) (status : ℕ) (text : List ℕ) → Type 0
IsDiagnostic words status text =
    (program : Program) × (own : Options) × (all : Options) × IsThis program × AreOwn own × AreAll all
    × IsDiagnosticOf program own all words status text
