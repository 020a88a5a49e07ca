-- What the program does.
use Rattle.std.specs.Prelude.{◌≡◌, ◌⊎◌, ◌<◌, ℕ, List, [], ◌∷◌, Bool, true, false, if◌then◌else◌, Option, None, Some, codes, length, map}
use Rattle.std.specs.Io.KnownBytes.{Appends, Keeps}
use Rattle.isle_base_source.specs.Source.{Source}
use Rattle.isle_cli.specs.Arguments.{Asked, Given, help_asked, version_asked, work_asked}
use Rattle.isle_cli.specs.Sources.{IsReadFrom}
use Rattle.isle_cli.specs.Streams.{AppendsBeginning}
use Rattle.isle_cli.specs.declared.failure.Failure.{Failure}
use Rattle.isle_cli.specs.declared.arguments.Options.{Options}
use Rattle.isle_cli.specs.declared.program.Program.{Program}
use Rattle.isle_check.specs.declared.options.TheConstants.{HELP, VERSION}
use Rattle.isle_check.specs.Options.{are_usable}
use Rattle.isle_check.specs.Programs.{IsProgramsReport}
use Rattle.isle_check.specs.Report.{IsReport}
use Rattle.isle_program_findings.specs.Calls as calls
use Rattle.isle_program_findings.specs.Calls.{ExplainsBy}
use Rattle.isle_program_findings.specs.Programs.{Part}
use Rattle.isle_program_findings.specs.ReportView.{ReportNode}
use Rattle.isle_program_manifest.specs.Levels.{NameLevel, with_levels}
use Rattle.isle_program.specs.reports.Colours.{settled}

-- the status of a report without errors, or with some
abbrev pub told_status : Bool → ℕ
told_status is_clean = if is_clean then 0 else 1

-- this program, and its options
abbrev pub IsProgram : Program → Type 0
IsProgram program =
    (program.name.now ≡ codes "isle-check")
    × (program.usage.now ≡ codes "usage: isle-check [--allow KIND] [--warn KIND] [--deny KIND] [--message-format FORMAT] [--color WHEN] [--exclude PATTERN] [--stdin-name NAME] [--program NAME] [--all-programs] [FILE ..]\n")

abbrev pub AreOptions : Options → Type 0
AreOptions options =
    (map (λ flag. flag.now) options.flags.now ≡ [])
    × (map (λ setting. setting.now) options.settings.now ≡ codes "--allow" ∷ codes "--warn" ∷ codes "--deny" ∷ codes "--message-format" ∷ codes "--color" ∷ codes "--exclude" ∷ [])

-- its options, and those that are about the programs of a manifest
abbrev pub AreAllOptions : Options → Type 0
AreAllOptions options =
    (map (λ flag. flag.now) options.flags.now ≡ codes "--print-programs" ∷ codes "--all-programs" ∷ [])
    × (map (λ setting. setting.now) options.settings.now ≡ codes "--allow" ∷ codes "--warn" ∷ codes "--deny" ∷ codes "--message-format" ∷ codes "--color" ∷ codes "--exclude" ∷ codes "--program" ∷ [])

-- the words ask this of the program
abbrev pub Ask : List (List ℕ) → Option Asked → Type 0
Ask words what = calls.Ask AreOptions words what

-- the text that goes with a status past 1
abbrev pub IsFailureText : ℕ → List ℕ → Type 0
IsFailureText status text = calls.IsFailureText IsProgram status text

-- the same, where the program is called with these words
abbrev pub IsFailureTextOf : (words : List (List ℕ)) → (status : ℕ) → (text : List ℕ) → Type 0
IsFailureTextOf words status text = calls.IsFailureTextOf IsProgram AreOptions AreAllOptions words status text

-- What was read of what the arguments name; Holds is said of the lines about what can't be read, and of the texts.
pub record Reads (given : List Given) (input input' : Option (List ℕ)) (Holds : List ℕ → List Source → Type 0) : Type 0 where
  pub usable : are_usable given ≡ true
  pub program : Program
  pub is_program : IsProgram program
  pub sources : List Source
  pub lines : List ℕ
  pub read : IsReadFrom given program input input' sources lines
  pub holds : Holds lines sources

-- the report is told, and this is its status, and standard error got the note, as far as it took it
abbrev pub ToldReport : List Given → ℕ → (output output' faults faults' : Option (List ℕ)) → List Source → Type 0
ToldReport given status output output' faults faults' sources =
    (report : ReportNode) × (note : List ℕ) × IsReport given sources report note × (status ≡ told_status report.is_clean)
    × Appends output output' report.text × AppendsBeginning faults faults' note

-- Some text can't be read, and standard error got the lines that say so, as far as it took them, and the output nothing;
-- or the report is told.
abbrev pub Told : List Given → ℕ → (output output' faults faults' : Option (List ℕ)) → List ℕ → List Source → Type 0
Told given status output output' faults faults' lines sources =
    ((0 < length lines) × (status ≡ 3) × Keeps output output' × AppendsBeginning faults faults' lines)
    ⊎ ((length lines ≡ 0) × ToldReport given status output output' faults faults' sources)

abbrev pub Tells : List Given → ℕ → (input input' output output' faults faults' : Option (List ℕ)) → Type 0
Tells given status input input' output output' faults faults' = Reads given input input' (Told given status output output' faults faults')

-- the output got a beginning of the report
abbrev pub CutReport : List Given → (output output' : Option (List ℕ)) → List Source → Type 0
CutReport given output output' sources =
    (report : ReportNode) × (note : List ℕ) × IsReport given sources report note × AppendsBeginning output output' report.text

abbrev pub IsCut : List Given → (output output' : Option (List ℕ)) → List ℕ → List Source → Type 0
IsCut given output output' lines sources = (length lines ≡ 0) × CutReport given output output' sources

abbrev pub Cuts : List Given → (input input' output output' : Option (List ℕ)) → Type 0
Cuts given input input' output output' = Reads given input input' (IsCut given output output')

-- what a failure says of the output, of texts that were read
abbrev pub ExplainsTexts : Failure → List Given → (output output' : Option (List ℕ)) → List Source → Type 0
ExplainsTexts failure given output output' sources = ExplainsBy ⊥ (Keeps output output') (CutReport given output output' sources) failure

-- what a failure says of the input and the output
abbrev pub Explains : Failure → List Given → (input input' output output' : Option (List ℕ)) → Type 0
Explains failure given input input' output output' =
    ExplainsBy ((are_usable given ≡ false) × Keeps input input' × Keeps output output') (Keeps output output') (Cuts given input input' output output') failure

-- the words are none of the usage, or name a kind, a format or a choice of colours that there is none of
abbrev pub IsMisuse : List (List ℕ) → Type 0
IsMisuse words = Ask words None ⊎ ((given : List Given) × Ask words (Some (work_asked given)) × (are_usable given ≡ false))

-- the words ask something of the program, and P holds of it
abbrev pub AsAsked : List (List ℕ) → (Asked → Type 0) → Type 0
AsAsked words P = calls.AsAsked AreOptions words P

-- what is asked for is done, with this status, and with colours if no option says otherwise, or without
abbrev pub Does : (shows_colours : Bool) → Asked → ℕ → (input input' output output' faults faults' : Option (List ℕ)) → Type 0
Does shows_colours help_asked status input input' output output' faults faults' =
    (status ≡ 0) × Keeps input input' × Appends output output' HELP.now × Keeps faults faults'
Does shows_colours version_asked status input input' output output' faults faults' =
    (status ≡ 0) × Keeps input input' × Appends output output' VERSION.now × Keeps faults faults'
Does shows_colours (work_asked given) status input input' output output' faults faults' = Tells (settled shows_colours given) status input input' output output' faults faults'

-- the output got a beginning of what is asked for
abbrev pub CutsAsked : (shows_colours : Bool) → Asked → (input input' output output' : Option (List ℕ)) → Type 0
CutsAsked shows_colours help_asked input input' output output' = Keeps input input' × AppendsBeginning output output' HELP.now
CutsAsked shows_colours version_asked input input' output output' = Keeps input input' × AppendsBeginning output output' VERSION.now
CutsAsked shows_colours (work_asked given) input input' output output' = Cuts (settled shows_colours given) input input' output output'

-- Of some programs, with their texts, this is told as the arguments say, and this is the status.
pub record TellsReport (given : List Given) (status : ℕ) (output output' : Option (List ℕ)) : Type 0 where
  pub usable : are_usable given ≡ true
  pub sources : List Source
  pub parts : List Part
  pub report : ReportNode
  pub is_report : IsProgramsReport given sources parts report
  pub ends : status ≡ told_status report.is_clean
  pub written : Appends output output' report.text

-- the output got a beginning of it
pub record CutsReport (given : List Given) (output output' : Option (List ℕ)) : Type 0 where
  pub usable : are_usable given ≡ true
  pub sources : List Source
  pub parts : List Part
  pub report : ReportNode
  pub is_report : IsProgramsReport given sources parts report
  pub begun : AppendsBeginning output output' report.text

-- this is told as the arguments say, and the levels of some manifest, whose names are those of kinds
abbrev pub TellsPrograms : List Given → ℕ → (output output' : Option (List ℕ)) → Type 0
TellsPrograms given status output output' = (levels : List NameLevel) × TellsReport (with_levels given levels) status output output'

abbrev pub CutsPrograms : List Given → (output output' : Option (List ℕ)) → Type 0
CutsPrograms given output output' = (levels : List NameLevel) × CutsReport (with_levels given levels) output output'

-- nothing is told of programs, since a name among the levels is that of no kind, or a file can't be read; or what is in them is told
abbrev pub EndsReport : List Given → ℕ → (output output' : Option (List ℕ)) → Type 0
EndsReport given status output output' = ((status ≡ 2 ⊎ status ≡ 3) × Keeps output output') ⊎ TellsReport given status output output'

-- the same of some levels; or there is no manifest, or it has a mistake
abbrev pub Ends : List Given → ℕ → (output output' : Option (List ℕ)) → Type 0
Ends given status output output' = ((status ≡ 2 ⊎ status ≡ 3) × Keeps output output') ⊎ TellsPrograms given status output output'

-- what a failure says of the output
abbrev pub ExplainsReport : Failure → List Given → (output output' : Option (List ℕ)) → Type 0
ExplainsReport failure given output output' = ExplainsBy (Keeps output output') (Keeps output output') (CutsReport given output output') failure

abbrev pub ExplainsEnd : Failure → List Given → (output output' : Option (List ℕ)) → Type 0
ExplainsEnd failure given output output' = ExplainsBy (Keeps output output') (Keeps output output') (CutsPrograms given output output') failure
