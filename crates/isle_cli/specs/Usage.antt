-- What standard error gets of words that are none of the usage.
use Rattle.std.specs.Prelude.{◌≡◌, ℕ, List, [], ◌∷◌, ◌++◌, Option, None, Some, codes}
use Rattle.isle_cli.specs.Arguments.{Asked, Awaited, Given, anything_awaited, asked, names_awaited, taken, value_awaited}
use Rattle.isle_cli.specs.Failure.{text_of}
use Rattle.isle_cli.specs.declared.arguments.Options.{Options}
use Rattle.isle_cli.specs.declared.failure.Failure.{Failure}
use Rattle.isle_cli.specs.declared.failure.Failure.TheVariants as failures
use Rattle.isle_cli.specs.declared.program.Program.{Program}
use Rattle.isle_cli.specs.declared.usage.Next.{Next}
use Rattle.isle_cli.specs.declared.usage.Next.TheVariants as nexts

-- this word, where it gives nothing, or else what comes of what the next one may be
abbrev pub unless_taken : List ℕ → Option (Option Given × Awaited) → (Awaited → Option (List ℕ)) → Option (List ℕ)
unless_taken word None more = Some word
unless_taken word (Some t) more = more t.1

-- the first word that is none of the usage: an option that is unknown
unfoldable pub unknown_word : Options → Awaited → List (List ℕ) → Option (List ℕ)
unknown_word options awaited [] = None
unknown_word options awaited (word ∷ words) = unless_taken word (taken options awaited word) (λ next. unknown_word options next words)

-- the usage, and in front of it the option that is unknown, if there is one
abbrev pub usage_behind : Program → Option (List ℕ) → List ℕ
usage_behind program None = program.usage.now
usage_behind program (Some word) = program.name.now ++ (codes ": unknown option '" ++ (word ++ (codes "'\n" ++ program.usage.now)))

abbrev pub usage_text : Program → Options → (words : List (List ℕ)) → List ℕ
usage_text program options words = usage_behind program (unknown_word options anything_awaited words)

-- what standard error gets of a failure of these words
abbrev pub words_text : Program → Options → (words : List (List ℕ)) → Failure → List ℕ
words_text program options words failures.Usage = usage_text program options words
words_text program options words failure = text_of program failure

-- the same of what the words ask for: the usage alone, where they ask for something
abbrev pub usage_of : Program → Options → (words : List (List ℕ)) → Option Asked → List ℕ
usage_of program options words None = usage_text program options words
usage_of program options words (Some request) = program.usage.now

-- The text that goes with a status past 1, of a program that is called with these words. By `own` options they ask for
-- something or nothing; an option that is none of `all` is unknown.
pub record IsDiagnosticOf (program : Program) (own all : Options) (words : List (List ℕ)) (status : ℕ) (text : List ℕ) : Type 0 where
  pub usage : status ≡ 2 → text ≡ usage_of program all words (asked own words)
  pub input : status ≡ 3 → text ≡ program.name.now ++ codes ": input is unreadable or not UTF-8\n"
  pub memory : status ≡ 4 → text ≡ program.name.now ++ codes ": out of memory\n"
  pub output : status ≡ 5 → text ≡ program.name.now ++ codes ": output failed\n"

-- what a value of the code awaits
abbrev pub awaited_next : Next → Awaited
awaited_next nexts.Anything = anything_awaited
awaited_next (nexts.Value option) = value_awaited option.now
awaited_next nexts.Names = names_awaited
