-- What standard error gets of a call with words.
use Rattle.std.proofs.Common.{◌≡◌, ◌≤◌, ◌⊎◌, inl, inr, ℕ, List, [], ◌∷◌, Option, None, Some, arith, codes, refl}
use Rattle.isle_cli.proofs.UsageLemmas.{options_of, understood-told, words-told}
use Rattle.isle_cli.specs.Arguments.{Asked, asked}
use Rattle.isle_cli.specs.Failure as frame
use Rattle.isle_cli.specs.Failure.{status_of}
use Rattle.isle_cli.specs.Streams.{AppendsBeginning, WritesBeginning}
use Rattle.isle_cli.specs.Usage.{words_text}
use Rattle.isle_cli.specs.declared.arguments.Options.{Options}
use Rattle.isle_cli.specs.declared.failure.Failure.{Failure}
use Rattle.isle_cli.specs.declared.failure.Failure.TheVariants as failures
use Rattle.isle_cli.specs.declared.program.Program.{Program}
use Rattle.isle_tidy.specs.Program.{AreAll, AreOwn, IsDiagnostic, IsThis}

-- its options, and those that are about the programs of a manifest
abbrev all_options : Options
all_options = options_of (codes "--check" ∷ codes "--diff" ∷ codes "--all-programs" ∷ []) (codes "--exclude" ∷ codes "--program" ∷ [])

-- the words ask for something
pub asked-told : (program : Program) (own : Options) (words : List (List ℕ)) (what : Asked) (status : ℕ) (faults faults' : Option (List ℕ)) → IsThis program → AreOwn own
    → asked own words ≡ Some what → WritesBeginning faults faults' (frame.IsDiagnostic program status) → WritesBeginning faults faults' (IsDiagnostic words status)
asked-told program own words what status faults faults' is are asks told =
    let said = understood-told program own all_options words what status faults faults' asks told in
    (said.0, (program, own, all_options, is, are, record { flags = refl; settings = refl }, said.1), said.2)

-- they ask for nothing, or memory was refused
pub words-told-here : (program : Program) (own all : Options) (words : List (List ℕ)) (failure : Failure) (status : ℕ) (faults faults' : Option (List ℕ)) → IsThis program → AreOwn own → AreAll all
    → (failure ≡ failures.Memory) ⊎ (failure ≡ failures.Usage) × (asked own words ≡ None)
    → status ≡ status_of failure → AppendsBeginning faults faults' (words_text program all words failure) → WritesBeginning faults faults' (IsDiagnostic words status)
words-told-here program own all words failure status faults faults' is are are_all why ends told =
    let said = words-told program own all words status failure faults faults' why told ends in
    (said.0, (program, own, all, is, are, are_all, said.1), said.2)

-- a call that only writes ends with 5 if it fails
pub past-two : (status : ℕ) → (status ≡ 0) ⊎ (status ≡ 5) → 2 ≤ status → status ≡ 5
past-two status (inl zero) two = absurd (omega (arith, zero, two))
past-two status (inr five) two = five
