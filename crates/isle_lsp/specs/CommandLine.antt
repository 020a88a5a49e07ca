-- The words of the command line.
use Rattle.std.specs.Prelude.{◌≡◌, ◌≢◌, ◌⊎◌, ℕ, List, [], ◌∷◌, ◌&&◌, ◌==◌, Bool, true, false, Option, None, Some, codes, length, map}
use Rattle.std.specs.Io.KnownBytes.{Appends, Keeps}
use Rattle.std.specs.Str.{bytes_eq}
use Rattle.isle_cli.specs.Arguments.{Asked, asked, help_asked, version_asked, work_asked}
use Rattle.isle_cli.specs.Failure.{IsDiagnostic}
use Rattle.isle_cli.specs.Streams.{AppendsBeginning}
use Rattle.isle_cli.specs.declared.arguments.Options.{Options}
use Rattle.isle_cli.specs.declared.program.Program.{Program}
use Rattle.isle_lsp.specs.declared.program.TheConstants.{HELP, VERSION}

-- no options but those of every program
pub record AreNone (options : Options) : Type 0 where
  pub flags : map (λ flag. flag.now) options.flags.now ≡ []
  pub settings : map (λ setting. setting.now) options.settings.now ≡ []

-- whether the words ask to serve an editor: none, or `--stdio` alone
abbrev pub asks_nothing : (words : List (List ℕ)) → Bool
asks_nothing [] = true
asks_nothing (word ∷ later) = bytes_eq word (codes "--stdio") && (length later == 0)

-- the words ask the program for something, or for nothing, of which P holds
abbrev pub AskFor : List (List ℕ) → (Option Asked → Type 0) → Type 0
AskFor words P = (options : Options) × AreNone options × P (asked options words)

-- neither the help nor the version is asked for
abbrev pub is_no_help : Option Asked → Bool
is_no_help None = true
is_no_help (Some help_asked) = false
is_no_help (Some version_asked) = false
is_no_help (Some (work_asked given)) = true

-- the words are none of the usage
pub record AreWrong (words : List (List ℕ)) : Type 0 where
  pub serves : asks_nothing words ≡ false
  pub help : AskFor words (λ what. is_no_help what ≡ true)

-- the help or the version is asked for, and P holds of its text
abbrev pub HasText : (List ℕ → Type 0) → Option Asked → Type 0
HasText P None = ⊥
HasText P (Some help_asked) = P HELP.now
HasText P (Some version_asked) = P VERSION.now
HasText P (Some (work_asked given)) = ⊥

-- What the output gets for words that do not ask to serve: the text that they ask for, with status 5 a beginning of it, and else nothing.
pub record Prints (words : List (List ℕ)) (status : ℕ) (output output' : Option (List ℕ)) : Type 0 where
  pub done : status ≡ 0 → AskFor words (HasText (Appends output output'))
  pub cut : status ≡ 5 → AskFor words (HasText (AppendsBeginning output output'))
  pub unwritten : (status ≡ 2) ⊎ (status ≡ 4) → Keeps output output'
  pub statuses : (status ≢ 1) × (status ≢ 3)

-- ---- standard error

abbrev pub usage : List ℕ
usage = codes "usage: isle-lsp [--stdio | --help | --version]\n"

-- the name of this program, and its usage
abbrev pub IsProgram : Program → Type 0
IsProgram program = (program.name.now ≡ codes "isle-lsp") × (program.usage.now ≡ usage)

-- the text that goes with a status past 1
abbrev pub IsFailureText : ℕ → List ℕ → Type 0
IsFailureText status text = (program : Program) × IsProgram program × IsDiagnostic program status text
