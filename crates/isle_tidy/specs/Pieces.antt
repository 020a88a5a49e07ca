-- The tidy text of a text, as it is written onto an output whose bytes are known or not.
use Rattle.std.specs.Prelude.{◌≡◌, ◌⊎◌, ◌++◌, ℕ, List, Option}
use Rattle.std.specs.Io.KnownBytes.{Appends, Keeps}
use Rattle.isle_cli.specs.Streams.{AppendsBeginning, WritesBeginning}
use Rattle.isle_cli.specs.declared.failure.Failure.{Failure}
use Rattle.isle_cli.specs.declared.failure.Failure.TheVariants as failures
use Rattle.isle_tidy_core.specs.Streams.{HasWritten}
use Rattle.isle_tidy_core.specs.Tidied.{IsTidyTextOf}
use Rattle.isle_tidy_core.specs.declared.tidying.Tidying.{Tidying}
use Rattle.isle_tidy.specs.Doing.{IsTidyFailure}

-- the output got more of the tidy text
abbrev pub PutsPiece : (old new : Tidying) → (output output' : Option (List ℕ)) → Type 0
PutsPiece old new output output' =
    (text out : List ℕ) → HasWritten text out old → (put : List ℕ) × Appends output output' put × HasWritten text (out ++ put) new

-- it got the rest
abbrev pub PutsRest : Tidying → (output output' : Option (List ℕ)) → Type 0
PutsRest old output output' =
    (text out : List ℕ) → HasWritten text out old → (put : List ℕ) × Appends output output' put × IsTidyTextOf text (out ++ put)

-- it got a beginning of the rest
abbrev pub CutsRest : Tidying → (output output' : Option (List ℕ)) → Type 0
CutsRest old output output' =
    (text out : List ℕ) → HasWritten text out old → (rest : List ℕ) × AppendsBeginning output output' rest × IsTidyTextOf text (out ++ rest)

-- it failed, with a beginning of the rest; or memory was refused, and it is as it was
pub record FailsPiece (failure : Failure) (old : Tidying) (output output' : Option (List ℕ)) : Type 0 where
  pub kind : (failure ≡ failures.Output) ⊎ (failure ≡ failures.Memory)
  pub kept : failure ≡ failures.Memory → Keeps output output'
  pub cut : CutsRest old output output'

-- The output failed, with a beginning of the tidy text; or the text is refused, or memory was, and the output is as it
-- was.
abbrev pub FailsTidied : Failure → (name text : List ℕ) → (output output' : Option (List ℕ)) → Type 0
FailsTidied failures.Output name text output output' = WritesBeginning output output' (IsTidyTextOf text)
FailsTidied failure name text output output' = IsTidyFailure failure name text × Keeps output output'
