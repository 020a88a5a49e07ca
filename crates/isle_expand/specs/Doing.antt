-- What the program does, to streams whose bytes are known or not, before and after.
use Rattle.std.specs.Prelude.{◌≡◌, ◌≢◌, ◌≤◌, ◌⊎◌, ℕ, List, [], Option, map, string_bytes}
use Rattle.std.specs.Io.KnownBytes.{Appends, Keeps}
use Rattle.isle_base_source.specs.Source.{Source}
use Rattle.isle_cli.specs.Arguments.{Asked, Given, help_asked, version_asked, work_asked}
use Rattle.isle_cli.specs.Sources.{IsReadFrom, source_of}
use Rattle.isle_cli.specs.Streams.{AppendsBeginning, Writes, WritesBeginning}
use Rattle.isle_cli.specs.declared.failure.Failure.{Failure}
use Rattle.isle_cli.specs.declared.failure.Failure.TheVariants as failures
use Rattle.isle_cli.specs.declared.program.Program.{Program}
use Rattle.isle_expand.specs.Expansion.{AreWarnings, HaveNoPrint, IsPrintOfExpansion}
use Rattle.isle_expand.specs.Program.{GivesWidth, given_width}
use Rattle.isle_expand.specs.declared.options.TheConstants.{HELP, VERSION}
use Rattle.isle_expand.specs.declared.program.Taken.{Taken}

-- The arguments give a width, and this was read of what they name; Holds is said of the texts, and of the lines of the
-- names that can't be read.
pub record Reads (program : Program) (given : List Given) (input input' : Option (List ℕ)) (Holds : List Source → List ℕ → Type 0) : Type 0 where
  pub width : GivesWidth given
  pub sources : List Source
  pub faults : List ℕ
  pub read : IsReadFrom given program input input' sources faults
  pub holds : Holds sources faults

-- All could be read: the output got the print of the expansion, and standard error the warnings, as far as it took
-- them.
abbrev pub Expands : Program → List Given → (input input' output output' faults faults' : Option (List ℕ)) → Type 0
Expands program given input input' output output' faults faults' =
    Reads program given input input' (λ sources lines. (lines ≡ [])
    × Writes output output' (IsPrintOfExpansion (given_width given) sources)
    × WritesBeginning faults faults' (AreWarnings sources))

-- all could be read, and standard error got why nothing is printed, as far as it took it
abbrev pub Refuses : Program → List Given → (input input' faults faults' : Option (List ℕ)) → Type 0
Refuses program given input input' faults faults' =
    Reads program given input input' (λ sources lines. (lines ≡ []) × WritesBeginning faults faults' (HaveNoPrint sources))

-- some names can't be read, and standard error got the lines that say so, as far as it took them
abbrev pub Misses : Program → List Given → (input input' faults faults' : Option (List ℕ)) → Type 0
Misses program given input input' faults faults' =
    Reads program given input input' (λ sources lines. (lines ≢ []) × AppendsBeginning faults faults' lines)

-- all could be read, and the output got a beginning of the print of the expansion
abbrev pub Cuts : Program → List Given → (input input' output output' : Option (List ℕ)) → Type 0
Cuts program given input input' output output' =
    Reads program given input input' (λ sources lines. (lines ≡ []) × WritesBeginning output output' (IsPrintOfExpansion (given_width given) sources))

-- what comes of the work with a status
abbrev pub Ends : Program → List Given → ℕ → (input input' output output' faults faults' : Option (List ℕ)) → Type 0
Ends program given status input input' output output' faults faults' =
    ((status ≡ 0) × Expands program given input input' output output' faults faults')
    ⊎ ((status ≡ 3) × Misses program given input input' faults faults' × Keeps output output')

-- what a failure says of the input and the output
abbrev pub Explains : Failure → Program → List Given → (input input' output output' : Option (List ℕ)) → Type 0
Explains (failures.Refused shown) program given input input' output output' =
    Reads program given input input' (λ sources lines. (lines ≡ []) × HaveNoPrint sources (string_bytes shown)) × Keeps output output'
Explains failures.Usage program given input input' output output' = (¬ (GivesWidth given)) × Keeps input input' × Keeps output output'
Explains failures.Input program given input input' output output' = ⊥
Explains failures.Memory program given input input' output output' = Keeps output output'
Explains failures.Output program given input input' output output' = Cuts program given input input' output output'

-- the width that the arguments give was taken, and this was read of what they name
abbrev pub Takes : Program → List Given → (input input' : Option (List ℕ)) → Taken → Type 0
Takes program given input input' read =
    (read.width ≡ given_width given)
    × Reads program given input input' (λ sources lines. (sources ≡ map source_of read.sources.list.items) × (lines ≡ string_bytes read.sources.faults))

-- what a failure of that says: no width is given, or memory was refused
abbrev pub IsReadFailure : Failure → List Given → (input input' : Option (List ℕ)) → Type 0
IsReadFailure (failures.Refused shown) given input input' = ⊥
IsReadFailure failures.Usage given input input' = (¬ (GivesWidth given)) × Keeps input input'
IsReadFailure failures.Input given input input' = ⊥
IsReadFailure failures.Memory given input input' = Unit {0}
IsReadFailure failures.Output given input input' = ⊥

-- what a failure says of texts that are expanded onto the output
abbrev pub IsPutFailure : Failure → ℕ → List Source → (output output' : Option (List ℕ)) → Type 0
IsPutFailure (failures.Refused shown) width sources output output' = HaveNoPrint sources (string_bytes shown) × Keeps output output'
IsPutFailure failures.Usage width sources output output' = ⊥
IsPutFailure failures.Input width sources output output' = ⊥
IsPutFailure failures.Memory width sources output output' = Keeps output output'
IsPutFailure failures.Output width sources output output' = WritesBeginning output output' (IsPrintOfExpansion width sources)

-- what comes of what was read, with a status: status 0 is of a program that is expanded, and status 3 of names that
-- can't be read
abbrev pub EndsAs : ℕ → Taken → (output output' faults faults' : Option (List ℕ)) → Type 0
EndsAs status read output output' faults faults' =
    ((status ≡ 0) × (string_bytes read.sources.faults ≡ [])
    × Writes output output' (IsPrintOfExpansion read.width (map source_of read.sources.list.items))
    × WritesBeginning faults faults' (AreWarnings (map source_of read.sources.list.items)))
    ⊎ ((status ≡ 3) × (string_bytes read.sources.faults ≢ [])
    × AppendsBeginning faults faults' (string_bytes read.sources.faults) × Keeps output output')

abbrev pub ExplainsAs : Failure → Taken → (output output' : Option (List ℕ)) → Type 0
ExplainsAs failure read output output' =
    (string_bytes read.sources.faults ≡ []) × IsPutFailure failure read.width (map source_of read.sources.list.items) output output'

-- what is asked for is done, with status 0
abbrev pub DoesAsked : Program → Asked → (input input' output output' faults faults' : Option (List ℕ)) → Type 0
DoesAsked program help_asked input input' output output' faults faults' = Keeps input input' × Appends output output' HELP.now × Keeps faults faults'
DoesAsked program version_asked input input' output output' faults faults' =
    Keeps input input' × Appends output output' VERSION.now × Keeps faults faults'
DoesAsked program (work_asked given) input input' output output' faults faults' = Expands program given input input' output output' faults faults'

-- status 1: nothing but a program can be refused
abbrev pub RefusesAsked : Program → Asked → (input input' faults faults' : Option (List ℕ)) → Type 0
RefusesAsked program help_asked input input' faults faults' = ⊥
RefusesAsked program version_asked input input' faults faults' = ⊥
RefusesAsked program (work_asked given) input input' faults faults' = Refuses program given input input' faults faults'

-- status 3: nothing but a program is read
abbrev pub MissesAsked : Program → Asked → (input input' faults faults' : Option (List ℕ)) → Type 0
MissesAsked program help_asked input input' faults faults' = ⊥
MissesAsked program version_asked input input' faults faults' = ⊥
MissesAsked program (work_asked given) input input' faults faults' = Misses program given input input' faults faults'

-- status 5: the output got a beginning of what is asked for
abbrev pub CutsAsked : Program → Asked → (input input' output output' : Option (List ℕ)) → Type 0
CutsAsked program help_asked input input' output output' = Keeps input input' × AppendsBeginning output output' HELP.now
CutsAsked program version_asked input input' output output' = Keeps input input' × AppendsBeginning output output' VERSION.now
CutsAsked program (work_asked given) input input' output output' = Cuts program given input input' output output'

-- Of some texts, those of a program of a manifest, the output got the print of the expansion.
abbrev pub ExpandsTexts : List Given → (output output' : Option (List ℕ)) → Type 0
ExpandsTexts given output output' = (sources : List Source) × GivesWidth given × Writes output output' (IsPrintOfExpansion (given_width given) sources)

-- the output got a beginning of it
abbrev pub CutsTexts : List Given → (output output' : Option (List ℕ)) → Type 0
CutsTexts given output output' = (sources : List Source) × GivesWidth given × WritesBeginning output output' (IsPrintOfExpansion (given_width given) sources)

-- nothing is printed, since there is no manifest, it has a mistake, or a file can't be read; or the texts are expanded
abbrev pub EndsTexts : List Given → ℕ → (output output' : Option (List ℕ)) → Type 0
EndsTexts given status output output' =
    ((2 ≤ status) × (status ≤ 3) × Keeps output output') ⊎ ((status ≡ 0) × ExpandsTexts given output output')

-- what a failure says of the output
abbrev pub ExplainsTexts : Failure → List Given → (output output' : Option (List ℕ)) → Type 0
ExplainsTexts (failures.Refused shown) given output output' = Keeps output output'
ExplainsTexts failures.Usage given output output' = Keeps output output'
ExplainsTexts failures.Input given output output' = ⊥
ExplainsTexts failures.Memory given output output' = Keeps output output'
ExplainsTexts failures.Output given output output' = CutsTexts given output output'
