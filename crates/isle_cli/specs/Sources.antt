-- What is read of what a command line names.
use Rattle.std.specs.Prelude.{◌≡◌, ◌≢◌, ◌⊎◌, ℕ, List, [], ◌∷◌, ◌++◌, Bool, Contains, Option, not, ◌||◌, codes, string_bytes, true}
use Rattle.std.specs.Fmt.{decimal}
use Rattle.std.specs.List.{flat_map, list_all}
use Rattle.std.specs.Str.{bytes_eq}
use Rattle.std.specs.Io.KnownBytes.{Keeps}
use Rattle.isle_base_source.specs.Source as files
use Rattle.isle_base.specs.Diagnostics.{only_file}
use Rattle.isle_cli.specs.Arguments.{Given, excluded, name_list, stdin_name}
use Rattle.isle_cli.specs.Patterns.{is_excluded}
use Rattle.isle_cli.specs.Streams.{IsStreamFault, ReadsText}
use Rattle.isle_cli.specs.declared.program.Program.{Program}
use Rattle.isle_cli.specs.declared.sources.Source.{Source}
use Rattle.isle_cli.specs.declared.streams.ReadFault.{ReadFault}
use Rattle.isle_cli.specs.declared.streams.ReadFault.TheVariants as faults

-- the name and the text of a source
abbrev pub source_of : Source → files.Source
source_of source = record { name = string_bytes source.name; text = string_bytes source.text }

-- why a name stands for no text, in words; bytes are counted from 0
abbrev pub reason_of : ReadFault → List ℕ
reason_of faults.Missing = codes "no such file or directory"
reason_of faults.Denied = codes "permission denied"
reason_of faults.Folder = codes "is a directory"
reason_of faults.NotRegular = codes "not a regular file"
reason_of (faults.NotUtf8 offset) = codes "not UTF-8 at byte " ++ decimal offset
reason_of faults.Unreadable = codes "unreadable"
reason_of faults.Memory = codes "out of memory"

-- the line that says so
abbrev pub fault_line : Program → (name : List ℕ) → ReadFault → List ℕ
fault_line program name fault = program.name.now ++ codes ": " ++ name ++ codes ": " ++ reason_of fault ++ codes "\n"

-- the line that says that a folder has no ISLE file
abbrev pub empty_line : Program → (name : List ℕ) → List ℕ
empty_line program name = program.name.now ++ (codes ": no .isle file in '" ++ (name ++ codes "'\n"))

-- each of these lines says why a path can't be read
abbrev pub AreFaultLines : Program → (lines : List ℕ) → Type 0
AreFaultLines program lines =
    (each : List (List ℕ × ReadFault)) × (lines ≡ flat_map (λ line. fault_line program line.0 line.1) each)

-- the lines so far grow by such lines
abbrev pub TellsFaults : Program → (lines lines' : List ℕ) → Type 0
TellsFaults program lines lines' = (told : List ℕ) × AreFaultLines program told × (lines' ≡ lines ++ told)

-- a path counts below this name: it is the name, or no pattern excludes it
abbrev pub is_taken : (excluded : List (List ℕ)) → (name path : List ℕ) → Bool
is_taken excluded name path = bytes_eq path name || not (is_excluded excluded path)

abbrev pub are_taken : (excluded : List (List ℕ)) → (name : List ℕ) → (paths : List (List ℕ)) → Bool
are_taken excluded name paths = list_all (is_taken excluded name) paths

-- What the name of a file or a folder is found to stand for: files that no pattern excludes, but for the name itself, and
-- lines about what can't be read, one of either at least; or it is a folder without an ISLE file, as one line says.
abbrev pub IsListing : Program → (excluded : List (List ℕ)) → (name : List ℕ) → (paths : List (List ℕ)) → (told : List ℕ) → Type 0
IsListing program excluded name paths told =
    (AreFaultLines program told × (are_taken excluded name paths ≡ true) × (paths ≡ [] → told ≢ []))
    ⊎ ((paths ≡ []) × (told ≡ empty_line program name))

-- What standard input gives: it is read whole, and is one text; or it gives no text, and one line says why.
abbrev pub GivesInput : (stdin_name : List ℕ) → Program → (input input' : Option (List ℕ)) → (sources : List files.Source) → (lines : List ℕ) → Type 0
GivesInput stdin_name program input input' sources lines =
    (ReadsText input input' (λ text. sources ≡ only_file stdin_name text) × (lines ≡ []))
    ⊎ ((fault : ReadFault) × IsStreamFault input input' fault × (sources ≡ []) × (lines ≡ fault_line program stdin_name fault))

-- What a file gives: a text of its path, or one line that says why there is none.
abbrev pub GivesFile : Program → (path : List ℕ) → (sources : List files.Source) → (lines : List ℕ) → Type 0
GivesFile program path sources lines =
    ((text : List ℕ) × (sources ≡ only_file path text) × (lines ≡ []))
    ⊎ ((fault : ReadFault) × (sources ≡ []) × (lines ≡ fault_line program path fault))

-- what files give, one after another
abbrev pub GiveFiles : Program → (paths : List (List ℕ)) → (sources : List files.Source) → (lines : List ℕ) → Type 0
GiveFiles program [] sources lines = (sources ≡ []) × (lines ≡ [])
GiveFiles program (path ∷ paths) sources lines =
    (first : List files.Source) × (more : List files.Source) × (told : List ℕ) × (further : List ℕ)
    × GivesFile program path first told × GiveFiles program paths more further
    × (sources ≡ first ++ more) × (lines ≡ told ++ further)

-- What the name of a file or a folder gives: what each file gives that it stands for, behind the lines about others.
pub record GivesPath (excluded : List (List ℕ)) (program : Program) (name : List ℕ) (sources : List files.Source) (lines : List ℕ) : Type 0 where
  pub paths : List (List ℕ)
  pub told : List ℕ
  pub further : List ℕ
  pub listing : IsListing program excluded name paths told
  pub each : GiveFiles program paths sources further
  pub is : lines ≡ told ++ further

-- What a name gives: `-` stands for standard input, which no other name reads.
abbrev pub GivesName : (excluded : List (List ℕ)) → (stdin_name : List ℕ) → Program → (name : List ℕ) → (input input' : Option (List ℕ)) → (sources : List files.Source) → (lines : List ℕ) → Type 0
GivesName excluded stdin_name program name input input' sources lines =
    ((name ≡ codes "-") × GivesInput stdin_name program input input' sources lines)
    ⊎ ((name ≢ codes "-") × Keeps input input' × GivesPath excluded program name sources lines)

-- What names give, one after another. So a second `-` reads what the first one left, which is nothing, and is an empty
-- text.
abbrev pub GiveNames : (excluded : List (List ℕ)) → (stdin_name : List ℕ) → Program → (names : List (List ℕ)) → (input input' : Option (List ℕ)) → (sources : List files.Source) → (lines : List ℕ) → Type 0
GiveNames excluded stdin_name program [] input input' sources lines = (input' ≡ input) × (sources ≡ []) × (lines ≡ [])
GiveNames excluded stdin_name program (name ∷ names) input input' sources lines =
    (mid : Option (List ℕ)) × (first : List files.Source) × (more : List files.Source) × (told : List ℕ) × (further : List ℕ)
    × GivesName excluded stdin_name program name input mid first told × GiveNames excluded stdin_name program names mid input' more further
    × (sources ≡ first ++ more) × (lines ≡ told ++ further)

-- What is read of names, in order: without one, standard input alone. Where others are named but `-` isn't, standard input
-- isn't read.
pub record AreReadFrom (names excluded : List (List ℕ)) (stdin_name : List ℕ) (program : Program) (input input' : Option (List ℕ)) (sources : List files.Source) (faults : List ℕ) : Type 0 where
  pub alone : names ≡ [] → GivesInput stdin_name program input input' sources faults
  pub each : names ≢ [] → GiveNames excluded stdin_name program names input input' sources faults
  pub unread : names ≢ [] → ¬ (Contains names (codes "-")) → Keeps input input'

-- what is read of the names among arguments
abbrev pub IsReadFrom : List Given → Program → (input input' : Option (List ℕ)) → (sources : List files.Source) → (faults : List ℕ) → Type 0
IsReadFrom given program input input' sources faults =
    AreReadFrom (name_list given) (excluded given) (stdin_name given) program input input' sources faults

-- the texts and the lines so far grow by what is given
abbrev pub Adds : (sources sources' : List files.Source) → (lines lines' : List ℕ) → (Given : List files.Source → List ℕ → Type 0) → Type 0
Adds sources sources' lines lines' Given =
    (more : List files.Source) × (told : List ℕ) × Given more told × (sources' ≡ sources ++ more) × (lines' ≡ lines ++ told)
