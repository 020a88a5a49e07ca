-- What the program does, to streams whose bytes are known or not, before and after.
use Rattle.std.specs.Prelude.{◌≡◌, ◌≢◌, ◌≤◌, ◌⊎◌, ◌==◌, ◌++◌, ℕ, List, [], ◌∷◌, Bool, true, false, if◌then◌else◌, Option, None, Some, codes, length, max, string_bytes, take}
use Rattle.std.specs.Io.KnownBytes.{Appends, Keeps}
use Rattle.isle_base_source.specs.declared.error.Error.{Error}
use Rattle.isle_cli.specs.Arguments.{Given, Asked, help_asked, version_asked, work_asked, gives_flag, is_among, name_list, stdin_name}
use Rattle.isle_cli.specs.Failure.{IsDiagnostic}
use Rattle.isle_cli.specs.Messages.{counted, error_line}
use Rattle.isle_cli.specs.Sources.{fault_line}
use Rattle.isle_cli.specs.Streams.{AppendsBeginning, IsStreamFault, ReadsText, Writes, WritesBeginning}
use Rattle.isle_cli.specs.declared.failure.Failure.{Failure}
use Rattle.isle_cli.specs.declared.failure.Failure.TheVariants as failures
use Rattle.isle_cli.specs.declared.program.Program.{Program}
use Rattle.isle_cli.specs.declared.streams.ReadFault.{ReadFault}
use Rattle.isle_tidy_core.specs.Refused.{HasNoDocument}
use Rattle.isle_tidy_core.specs.Tidied.{IsTidyTextOf, IsUntidy}
use Rattle.isle_tidy_diff.specs.Unified.{IsDiff}
use Rattle.isle_tidy.specs.declared.listings.Listing.{Listing}
use Rattle.isle_tidy.specs.declared.listings.Listing.TheVariants.{Names, Diffs}
use Rattle.isle_tidy.specs.declared.program.TheConstants.{HELP, VERSION}
use Rattle.isle_base.specs.Refusal.{RefusesIn}

-- whether the text is untidy
abbrev pub IsJudged : (text : List ℕ) (is_untidy : Bool) → Type 0
IsJudged text true = IsUntidy text
IsJudged text false = IsTidyTextOf text text

-- why a text of this name is refused: a line with the place, of a byte of the text or of its end
abbrev pub IsRefusal : (name text line : List ℕ) → Type 0
IsRefusal name text line =
    (e : Error) × RefusesIn 0 (length text) e × (line ≡ error_line (record { name = name; text = text }) e)

-- the text is refused, with this line, or memory was refused
abbrev pub IsTidyFailure : Failure → (name text : List ℕ) → Type 0
IsTidyFailure (failures.Refused line) name text = HasNoDocument text × IsRefusal name text (string_bytes line)
IsTidyFailure failures.Usage name text = ⊥
IsTidyFailure failures.Input name text = ⊥
IsTidyFailure failures.Memory name text = Unit {0}
IsTidyFailure failures.Output name text = ⊥

-- what comes of one file: any failure but that of the command line
abbrev pub IsFileFailure : Failure → Type 0
IsFileFailure failure = failure ≢ failures.Usage

-- What is listed of an untidy text of this name: the name in a line, or the unified diff of the text and its tidy text.
abbrev pub IsListing : Listing → (name text told : List ℕ) → Type 0
IsListing Names name text told = told ≡ name ++ codes "\n"
IsListing Diffs name text told = (tidy : List ℕ) × IsTidyTextOf text tidy × IsDiff name text tidy told

-- the output failed, with a beginning of what is listed; or the text is refused, or memory was, and it is as it was
abbrev pub FailsListing : Failure → Listing → (name text : List ℕ) → (output output' : Option (List ℕ)) → Type 0
FailsListing failures.Output listing name text output output' = WritesBeginning output output' (IsListing listing name text)
FailsListing failure listing name text output output' = IsTidyFailure failure name text × Keeps output output'

-- the output got the tidy text; or a text that is to be listed is tidy, and the output is left alone
abbrev pub DoesText : Option Listing → (name text : List ℕ) → (output output' : Option (List ℕ)) → Type 0
DoesText None name text output output' = Writes output output' (IsTidyTextOf text)
DoesText (Some listing) name text output output' = IsTidyTextOf text text × Keeps output output'

-- the text is untidy, and the output got what is listed of it
abbrev pub ListsText : Option Listing → (name text : List ℕ) → (output output' : Option (List ℕ)) → Type 0
ListsText None name text output output' = ⊥
ListsText (Some listing) name text output output' = IsUntidy text × Writes output output' (IsListing listing name text)

-- all is done, or the text is found to be untidy
abbrev pub TellsText : Bool → Option Listing → (name text : List ℕ) → (output output' : Option (List ℕ)) → Type 0
TellsText true = DoesText
TellsText false = ListsText

-- the output got a beginning of what it gets where it refuses no bytes
abbrev pub CutsText : Option Listing → (name text : List ℕ) → (output output' : Option (List ℕ)) → Type 0
CutsText None name text output output' = WritesBeginning output output' (IsTidyTextOf text)
CutsText (Some listing) name text output output' = IsUntidy text × WritesBeginning output output' (IsListing listing name text)

-- what a failure says of the text and the output
abbrev pub Explains : Failure → Option Listing → (name text : List ℕ) → (output output' : Option (List ℕ)) → Type 0
Explains failures.Output listing name text output output' = CutsText listing name text output output'
Explains failure listing name text output output' = IsTidyFailure failure name text × Keeps output output'

-- What status 1 says of a text: it is refused, standard error got its line, as far as it took it, and the output nothing;
-- or it is listed, and standard error got nothing.
abbrev pub FindsText : Option Listing → (name text : List ℕ) → (output output' faults faults' : Option (List ℕ)) → Type 0
FindsText listing name text output output' faults faults' =
    (HasNoDocument text × WritesBeginning faults faults' (IsRefusal name text) × Keeps output output')
    ⊎ (ListsText listing name text output output' × Keeps faults faults')

-- the same of the text that the whole input is
abbrev pub DoesInput : Option Listing → (name : List ℕ) → (input input' output output' : Option (List ℕ)) → Type 0
DoesInput listing name input input' output output' = ReadsText input input' (λ text. DoesText listing name text output output')

abbrev pub FindsInput : Option Listing → (name : List ℕ) → (input input' output output' faults faults' : Option (List ℕ)) → Type 0
FindsInput listing name input input' output output' faults faults' =
    ReadsText input input' (λ text. FindsText listing name text output output' faults faults')

abbrev pub CutsInput : Option Listing → (name : List ℕ) → (input input' output output' : Option (List ℕ)) → Type 0
CutsInput listing name input input' output output' = ReadsText input input' (λ text. CutsText listing name text output output')

-- the input gives no text, and standard error got the line that says why, as far as it took it
abbrev pub MissesInput : Program → (name : List ℕ) → (input input' faults faults' : Option (List ℕ)) → Type 0
MissesInput program name input input' faults faults' =
    (fault : ReadFault) × IsStreamFault input input' fault × AppendsBeginning faults faults' (fault_line program name fault)

-- what is to be listed; nothing where texts are to be tidied
unfoldable pub listing_of : List Given → Option Listing
listing_of list =
    if gives_flag (codes "--diff") list then Some Diffs else if gives_flag (codes "--check") list then Some Names else None

-- the option that asks for it
unfoldable pub option_of : Option Listing → List ℕ
option_of None = codes "--check"
option_of (Some Names) = codes "--check"
option_of (Some Diffs) = codes "--diff"

-- whether standard input is among the names
abbrev pub names_input : List Given → Bool
names_input list = is_among (name_list list) (codes "-")

-- Status 0: without names the input is done. With names of files alone it isn't read, and the output is left alone.
abbrev pub DoesTask : List Given → (input input' output output' : Option (List ℕ)) → Type 0
DoesTask list input input' output output' =
    (name_list list ≡ [] → DoesInput (listing_of list) (stdin_name list) input input' output output')
    × (name_list list ≢ [] → names_input list ≡ false → Keeps input input' × Keeps output output')

-- what is asked for is done
abbrev pub Does : Program → Asked → (input input' output output' : Option (List ℕ)) → Type 0
Does program help_asked input input' output output' = Keeps input input' × Appends output output' HELP.now
Does program version_asked input input' output output' = Keeps input input' × Appends output output' VERSION.now
Does program (work_asked list) input input' output output' = DoesTask list input input' output output'

-- status 1: nothing but a text can be found wanting
abbrev pub Finds : Asked → (input input' output output' faults faults' : Option (List ℕ)) → Type 0
Finds help_asked input input' output output' faults faults' = ⊥
Finds version_asked input input' output output' faults faults' = ⊥
Finds (work_asked list) input input' output output' faults faults' =
    name_list list ≡ [] → FindsInput (listing_of list) (stdin_name list) input input' output output' faults faults'

-- status 5: the output got a beginning of what is asked for
abbrev pub Cuts : Program → Asked → (input input' output output' : Option (List ℕ)) → Type 0
Cuts program help_asked input input' output output' = Keeps input input' × AppendsBeginning output output' HELP.now
Cuts program version_asked input input' output output' = Keeps input input' × AppendsBeginning output output' VERSION.now
Cuts program (work_asked list) input input' output output' =
    name_list list ≡ [] → CutsInput (listing_of list) (stdin_name list) input input' output output'

-- status 3 without names: standard input gives no text
abbrev pub Misses : Program → Asked → (input input' faults faults' : Option (List ℕ)) → Type 0
Misses program help_asked input input' faults faults' = ⊥
Misses program version_asked input input' faults faults' = ⊥
Misses program (work_asked list) input input' faults faults' =
    name_list list ≡ [] → MissesInput program (stdin_name list) input input' faults faults'

-- where files alone are named, standard input isn't read
abbrev pub HandlesFiles : Asked → (input input' : Option (List ℕ)) → Type 0
HandlesFiles help_asked input input' = Unit {0}
HandlesFiles version_asked input input' = Unit {0}
HandlesFiles (work_asked list) input input' = name_list list ≢ [] → names_input list ≡ false → Keeps input input'

-- to tidy what is named is asked for
abbrev pub HasNames : Asked → Type 0
HasNames help_asked = ⊥
HasNames version_asked = ⊥
HasNames (work_asked list) = name_list list ≢ []

-- What comes of a file or of several, listed or tidied: a status, and what the output and standard error got. With status
-- 0 neither got anything. Where they are tidied, the output gets nothing.
pub record EndsSome (listing : Option Listing) (status : ℕ) (output output' faults faults' : Option (List ℕ)) : Type 0 where
  pub known : status ≤ 5
  pub used : status ≢ 2
  pub unwritten : status ≡ 0 → Keeps output output'
  pub quiet : status ≡ 0 → Keeps faults faults'
  pub in_place : listing ≡ None → Keeps output output'

-- What the output got of one file: nothing; or the text is untidy, and what is listed of it, or with status 5 a beginning.
abbrev pub ListsFile : Option Listing → (status : ℕ) → (output output' : Option (List ℕ)) → Type 0
ListsFile None status output output' = Keeps output output'
ListsFile (Some listing) status output output' =
    Keeps output output'
    ⊎ ((name : List ℕ) × (text : List ℕ) × IsUntidy text
    × ((status ≡ 1) × Writes output output' (IsListing listing name text)
    ⊎ (status ≡ 5) × WritesBeginning output output' (IsListing listing name text)))

-- what comes of one file
abbrev pub EndsFile : Option Listing → (status : ℕ) → (output output' faults faults' : Option (List ℕ)) → Type 0
EndsFile listing status output output' faults faults' =
    EndsSome listing status output output' faults faults' × ListsFile listing status output output'

-- files end with these statuses, one after another
abbrev pub EndFiles : Option Listing → (statuses : List ℕ) → (output output' faults faults' : Option (List ℕ)) → Type 0
EndFiles listing [] output output' faults faults' = (output' ≡ output) × (faults' ≡ faults)
EndFiles listing (status ∷ statuses) output output' faults faults' =
    (mid : Option (List ℕ)) × (said : Option (List ℕ)) × EndsFile listing status output mid faults said
    × EndFiles listing statuses mid output' said faults'

abbrev pub greatest : List ℕ → ℕ
greatest [] = 0
greatest (status ∷ statuses) = max status (greatest statuses)

-- What comes of files, of which there are this many at least, unless the output failed: then no more are listed. The
-- status is the greatest of theirs.
abbrev pub RunsOnFiles : Option Listing → (least status : ℕ) → (output output' faults faults' : Option (List ℕ)) → Type 0
RunsOnFiles listing least status output output' faults faults' =
    (statuses : List ℕ) × ((least ≤ length statuses) ⊎ ((listing ≢ None) × (status ≡ 5))) × (status ≡ greatest statuses)
    × EndFiles listing statuses output output' faults faults'

-- What comes of the text of standard input: a status, and what this says of the output and standard error.
pub record EndsText (program : Program) (listing : Option Listing) (name text : List ℕ) (status : ℕ) (output output' faults faults' : Option (List ℕ)) : Type 0 where
  pub known : status ≤ 5
  pub used : status ≢ 2
  pub read : status ≢ 3
  pub done : status ≡ 0 → DoesText listing name text output output'
  pub found : status ≡ 1 → FindsText listing name text output output' faults faults'
  pub cut : status ≡ 5 → CutsText listing name text output output'
  pub unwritten : 2 ≤ status → status ≢ 5 → Keeps output output'
  pub quiet : status ≡ 0 → Keeps faults faults'
  pub told : 2 ≤ status → WritesBeginning faults faults' (IsDiagnostic program status)

-- What comes of standard input: a status, and what this says of the input, the output and standard error.
pub record EndsInput (program : Program) (listing : Option Listing) (name : List ℕ) (status : ℕ) (input input' output output' faults faults' : Option (List ℕ)) : Type 0 where
  pub known : status ≤ 5
  pub used : status ≢ 2
  pub done : status ≡ 0 → DoesInput listing name input input' output output'
  pub found : status ≡ 1 → FindsInput listing name input input' output output' faults faults'
  pub cut : status ≡ 5 → CutsInput listing name input input' output output'
  pub unwritten : 2 ≤ status → status ≢ 5 → Keeps output output'
  pub quiet : status ≡ 0 → Keeps faults faults'
  pub told : 2 ≤ status → status ≢ 3 → WritesBeginning faults faults' (IsDiagnostic program status)
  pub missed : status ≡ 3 → MissesInput program name input input' faults faults'

-- What comes of a name: `-` stands for standard input, and any other name for a file, or for the files below a folder,
-- one at least. A folder that can't be read, or has no ISLE file, counts as one that can't be read.
abbrev pub EndsName : Program → Option Listing → (stdin_name name : List ℕ) → (status : ℕ) → (input input' output output' faults faults' : Option (List ℕ)) → Type 0
EndsName program listing stdin_name name status input input' output output' faults faults' =
    ((name ≡ codes "-") × EndsInput program listing stdin_name status input input' output output' faults faults')
    ⊎ ((name ≢ codes "-") × Keeps input input' × RunsOnFiles listing 1 status output output' faults faults')

-- names end with these statuses, one for each, one after another
abbrev pub EndNames : Program → Option Listing → (stdin_name : List ℕ) → (names : List (List ℕ)) → (statuses : List ℕ) → (input input' output output' faults faults' : Option (List ℕ)) → Type 0
EndNames program listing stdin_name [] [] input input' output output' faults faults' = (input' ≡ input) × (output' ≡ output) × (faults' ≡ faults)
EndNames program listing stdin_name [] (_ ∷ _) input input' output output' faults faults' = ⊥
EndNames program listing stdin_name (_ ∷ _) [] input input' output output' faults faults' = ⊥
EndNames program listing stdin_name (name ∷ names) (status ∷ statuses) input input' output output' faults faults' =
    (left : Option (List ℕ)) × (mid : Option (List ℕ)) × (said : Option (List ℕ))
    × EndsName program listing stdin_name name status input left output mid faults said
    × EndNames program listing stdin_name names statuses left input' mid output' said faults'

-- what comes of names, of each: the status is the greatest of theirs
abbrev pub RunsOnAll : Program → Option Listing → (stdin_name : List ℕ) → (names : List (List ℕ)) → (status : ℕ) → (input input' output output' faults faults' : Option (List ℕ)) → Type 0
RunsOnAll program listing stdin_name names status input input' output output' faults faults' =
    (statuses : List ℕ) × (status ≡ greatest statuses) × EndNames program listing stdin_name names statuses input input' output output' faults faults'

-- What comes of names: of all of them; or the output failed where they are to be listed, and then only of the first ones.
abbrev pub RunsOnNames : Program → Option Listing → (stdin_name : List ℕ) → (names : List (List ℕ)) → (status : ℕ) → (input input' output output' faults faults' : Option (List ℕ)) → Type 0
RunsOnNames program listing stdin_name names status input input' output output' faults faults' =
    (done : ℕ) × ((take done names ≡ names) ⊎ ((listing ≢ None) × (status ≡ 5)))
    × RunsOnAll program listing stdin_name (take done names) status input input' output output' faults faults'

-- where files alone are named and tidied, the output gets nothing
abbrev pub LeavesOutput : Asked → (output output' : Option (List ℕ)) → Type 0
LeavesOutput help_asked output output' = Unit {0}
LeavesOutput version_asked output output' = Unit {0}
LeavesOutput (work_asked list) output output' =
    name_list list ≢ [] → names_input list ≡ false → listing_of list ≡ None → Keeps output output'

-- What comes of the files of programs: nothing is done, since there is no manifest, it has a mistake, or the command line
-- or memory doesn't allow it; or what comes of files.
abbrev pub EndsPrograms : Option Listing → (status : ℕ) → (output output' : Option (List ℕ)) → Type 0
EndsPrograms listing status output output' =
    ((2 ≤ status) × (status ≤ 4) × Keeps output output')
    ⊎ ((faults : Option (List ℕ)) × (faults' : Option (List ℕ)) × RunsOnFiles listing 0 status output output' faults faults')

-- what is reported if this many files would change
abbrev pub changes_text : Program → Option Listing → (untidy : ℕ) → List ℕ
changes_text program listing untidy =
    if untidy == 0 then []
    else program.name.now ++ (codes ": " ++ (counted untidy (codes "file")
    ++ (codes " would change; run the same command without " ++ (option_of listing ++ codes "\n"))))

-- What comes of names; and at the end standard error gets how many files would change, as far as it takes that.
abbrev pub RunsAndTells : Program → Option Listing → (stdin_name : List ℕ) → (names : List (List ℕ)) → (status : ℕ) → (input input' output output' faults faults' : Option (List ℕ)) → Type 0
RunsAndTells program listing stdin_name names status input input' output output' faults faults' =
    (said : Option (List ℕ)) × (untidy : ℕ)
    × RunsOnNames program listing stdin_name names status input input' output output' faults said × AppendsBeginning said faults' (changes_text program listing untidy)

-- the same of what is asked for, where it has names
abbrev pub RunsOnAsked : Program → Asked → (status : ℕ) → (input input' output output' faults faults' : Option (List ℕ)) → Type 0
RunsOnAsked program help_asked status input input' output output' faults faults' = Unit {0}
RunsOnAsked program version_asked status input input' output output' faults faults' = Unit {0}
RunsOnAsked program (work_asked list) status input input' output output' faults faults' =
    name_list list ≢ [] → RunsAndTells program (listing_of list) (stdin_name list) (name_list list) status input input' output output' faults faults'
